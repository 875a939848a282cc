use Rattle.std.proofs.Common.{◌≡◌, ◌∙◌, arith, to_z, of_z, to_z-of_z, FitsSigned, ℤ, pos, neg_ℤ, ◌-ℤ◌, ◌+ℤ◌, w64, subst, ◌^◌}
use Rattle.std.proofs.lemmas.Int.{ints}
use Rattle.geometry.specs.Fractions.{IsBetweenEnds}
use Rattle.geometry.proofs.Sharing.{moved_between}
use Rattle.geometry.proofs.clipping.crossing_value.Goals as goal

apart_is : (c : goal.After-share) → to_z w64 (of_z w64 c.apart.result) ≡ c.args.to -ℤ c.args.from
apart_is c =
    let f : FitsSigned w64 c.apart.result = record { sfits = c.apart.type_inv } in
    to_z-of_z f ∙ c.apart.ensures.value ∙ (λ i. to_z-of_z c.ranges.to i -ℤ to_z-of_z c.ranges.from i)

between : (c : goal.After-share) → IsBetweenEnds (pos 0) (c.args.to -ℤ c.args.from) c.share.result
between c = subst (λ (z : ℤ). IsBetweenEnds (pos 0) z c.share.result) (apart_is c) c.share.ensures.between

pub moved-requires-clause-by : goal.moved-requires-clause-by
moved-requires-clause-by c =
    let f : FitsSigned w64 c.share.result = record { sfits = c.share.type_inv } in
    let a = c.requires.from in let b = c.requires.to in
    let a0 = a.0 in let a1 = a.1 in let b0 = b.0 in let b1 = b.1 in
    rw (to_z-of_z f) (between c (neg_ℤ (pos (2 ^ 47))) (pos (2 ^ 47)) (omega (arith, ints)) (omega (arith, ints)) (omega (arith, ints)) (omega (arith, ints)))

pub returns-clause-between : goal.returns-clause-between
returns-clause-between c =
    let f : FitsSigned w64 c.share.result = record { sfits = c.share.type_inv } in
    let g : FitsSigned w64 c.moved.result = record { sfits = c.moved.type_inv } in
    let a : to_z w64 (of_z w64 c.apart.result) ≡ c.args.to -ℤ c.args.from =
    let h : FitsSigned w64 c.apart.result = record { sfits = c.apart.type_inv } in
    to_z-of_z h ∙ c.apart.ensures.value ∙ (λ i. to_z-of_z c.ranges.to i -ℤ to_z-of_z c.ranges.from i) in
    let b = subst (λ (z : ℤ). IsBetweenEnds (pos 0) z c.share.result) a c.share.ensures.between in
    let m : to_z w64 (of_z w64 c.moved.result) ≡ c.args.from +ℤ c.share.result = to_z-of_z g ∙ c.moved.ensures ∙ (λ i. to_z-of_z c.ranges.from i +ℤ to_z-of_z f i) in
    rw m (moved_between c.args.from c.args.to c.share.result b)
