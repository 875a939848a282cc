use Rattle.std.proofs.Common.{◌≡◌, ◌∙◌, rules, ◌+ℤ◌, ◌*ℤ◌, arith, to_z, of_z, to_z-of_z, w64, FitsSigned}
use Rattle.std.proofs.lemmas.Int.{ints}
use Rattle.raster.proofs.slopes.level_columns.Goals as goal

pub returns-then-lifted-gt0-clause-none : goal.returns-then-lifted-gt0-clause-none
returns-then-lifted-gt0-clause-none c h =
    let ff : FitsSigned w64 c.args.l.now.first = search rules in
    let fg : FitsSigned w64 c.args.l.now.gain = search rules in
    let fp : FitsSigned w64 c.product.result = record { sfits = c.product.type_inv } in
    let fm : FitsSigned w64 c.lifted.result = record { sfits = c.lifted.type_inv } in
    let value : to_z w64 (of_z w64 c.lifted.result) ≡ c.args.l.now.first +ℤ c.args.l.now.gain *ℤ c.args.climb =
    to_z-of_z fm ∙ c.lifted.ensures.value ∙ (λ i. to_z-of_z ff i +ℤ (to_z-of_z fp ∙ c.product.ensures.value ∙ (λ j. to_z-of_z fg j *ℤ to_z-of_z c.ranges.climb j)) i) in
    let t = c.if-lifted-gt0.true in
    absurd (omega (arith, ints, value, h, t))
