use Rattle.std.proofs.Common.{◌≡◌, ◌∙◌, sym, subst, rules, ℤ, pos, ◌^◌, ◌+ℤ◌, ◌-ℤ◌, ◌*ℤ◌, ◌≤ℤ◌, ◌<ℤ◌, arith, to_z, of_z, to_z-of_z, w64, FitsSigned}
use Rattle.std.proofs.lemmas.Int.{ints}
use Rattle.fixed_math.proofs.Signed.{product_within}
use Rattle.raster.proofs.SlopesToSpan.{whole_steps, turn_by_steps}
use Rattle.raster.proofs.slopes.columns_before.Goals as goal

pub reach-requires-clause-low : goal.reach-requires-clause-low
reach-requires-clause-low c =
    let f : FitsSigned w64 c.width_of.result = record { sfits = c.width_of.type_inv } in
    let v = c.width_of.ensures.value in
    rw (to_z-of_z f, v) (omega (arith, ints))

pub held-requires-clause-step : goal.held-requires-clause-step
held-requires-clause-step c =
    let t = c.args.t.now in
    let f : FitsSigned w64 t.step = search rules in
    let a = t.some in
    let b = t.small in
    rw (to_z-of_z f) (omega (arith, ints, a, b), omega (arith, ints, a, b))

pub returns : goal.returns
returns c =
    let t = c.args.t.now in
    let d = c.held.result in
    let fs : FitsSigned w64 t.step = search rules in
    let ff : FitsSigned w64 t.first = search rules in
    let fg : FitsSigned w64 t.gain = search rules in
    let fw : FitsSigned w64 c.width_of.result = record { sfits = c.width_of.type_inv } in
    let fr : FitsSigned w64 c.reach.result = record { sfits = c.reach.type_inv } in
    let fp : FitsSigned w64 c.product.result = record { sfits = c.product.type_inv } in
    let fm : FitsSigned w64 c.lifted-most.result = record { sfits = c.lifted-most.type_inv } in
    let fd : FitsSigned w64 d = record { sfits = c.held.type_inv } in
    let reach : to_z w64 (of_z w64 c.reach.result) ≡ t.step *ℤ (c.args.c.x1 -ℤ c.args.c.x0) =
    to_z-of_z fr ∙ c.reach.ensures.value ∙ (λ i. to_z-of_z fs i *ℤ (to_z-of_z fw ∙ c.width_of.ensures.value) i) in
    let most : to_z w64 (of_z w64 c.lifted-most.result) ≡ t.first +ℤ t.gain *ℤ c.args.climb =
    to_z-of_z fm ∙ c.lifted-most.ensures.value ∙ (λ i. to_z-of_z ff i +ℤ (to_z-of_z fp ∙ c.product.ensures.value ∙ (λ j. to_z-of_z fg j *ℤ to_z-of_z c.ranges.climb j)) i) in
    let h = c.held.ensures in
    let low = h.low in
    let high : d ≤ℤ (t.step *ℤ (c.args.c.x1 -ℤ c.args.c.x0)) = subst (λ (z : ℤ). d ≤ℤ z) reach h.high in
    let top : d ≤ℤ pos (2 ^ 37) = let a = c.reach.ensures.high in let b = h.high in let e = to_z-of_z fr in omega (arith, ints, a, b, e) in
    let some = t.some in
    let small = t.small in
    let p = product_within d t.step (2 ^ 37) (2 ^ 25) (omega (arith, ints, low), top) (omega (arith, ints, some), small) in
    let few : (d *ℤ t.step) <ℤ pos (2 ^ 64) = let q = p.1 in omega (arith, ints, q) in
    let w = whole_steps t.step d t.inverse c.share.result t.inverted some low few (rw (to_z-of_z fd) at c.share.ensures.low) (rw (to_z-of_z fd) at c.share.ensures.high) in
    turn_by_steps _ t.step c.args.c.x0 c.args.c.x1 d c.share.result some c.requires.order low high
    (λ z. rw (most, to_z-of_z fs) at (h.under z)) (λ z. rw (most, to_z-of_z fs) at (h.over (subst (λ (y : ℤ). d <ℤ y) (sym reach) z))) w.0 w.1
