use Rattle.std.proofs.Common.{◌≡◌, ◌∙◌, arith, rules, to_z, of_z, to_z-of_z, FitsSigned, ℤ, pos, neg_ℤ, w64, ◌*ℤ◌, sym, subst, ◌^◌}
use mir.Syntax.{w128}
use Rattle.std.proofs.lemmas.Int.{ints}
use Rattle.rc_base.specs.Numbers.{floor_quotient}
use Rattle.geometry.proofs.Sharing.{share_between, word_fits}
use Rattle.geometry.proofs.clipping.share.Goals as goal

-- what the cast is of
quotient_is : (c : goal.After-floor_div) → to_z w128 (of_z w128 c.floor_div.result) ≡ floor_quotient (c.args.difference *ℤ c.args.fraction.part) c.args.fraction.whole
quotient_is c =
    let part : FitsSigned w64 c.args.fraction.part = search rules in
    let whole : FitsSigned w64 c.args.fraction.whole = search rules in
    let f : FitsSigned w128 c.product.result = record { sfits = c.product.type_inv } in
    let g : FitsSigned w128 c.from.result = record { sfits = c.from.type_inv } in
    let h : FitsSigned w128 c.floor_div.result = record { sfits = c.floor_div.type_inv } in
    let n : to_z w128 (of_z w128 c.product.result) ≡ c.args.difference *ℤ c.args.fraction.part =
    to_z-of_z f ∙ c.product.ensures.value ∙ (λ i. to_z-of_z c.ranges.difference i *ℤ to_z-of_z part i) in
    let d : to_z w128 (of_z w128 c.from.result) ≡ c.args.fraction.whole = to_z-of_z g ∙ c.from.ensures ∙ to_z-of_z whole in
    to_z-of_z h ∙ c.floor_div.ensures.value ∙ (λ i. floor_quotient (n i) (d i))

fits : (c : goal.After-floor_div) → FitsSigned w64 (floor_quotient (c.args.difference *ℤ c.args.fraction.part) c.args.fraction.whole)
fits c =
    word_fits _ (share_between c.args.difference c.args.fraction.part c.args.fraction.whole c.args.fraction.cut.low c.args.fraction.cut.high (neg_ℤ (pos (2 ^ 47))) (pos (2 ^ 47)) (omega (arith, ints)) c.requires.0 (omega (arith, ints)) c.requires.1)

pub overflow_cast-result : goal.overflow_cast-result
overflow_cast-result c = subst (λ (z : ℤ). FitsSigned w64 z) (sym (quotient_is c)) (fits c)

pub returns-clause-value : goal.returns-clause-value
returns-clause-value c = rw (quotient_is c) (to_z-of_z (fits c))

pub returns-clause-between : goal.returns-clause-between
returns-clause-between c = rw (quotient_is c, to_z-of_z (fits c)) (share_between c.args.difference c.args.fraction.part c.args.fraction.whole c.args.fraction.cut.low c.args.fraction.cut.high)
