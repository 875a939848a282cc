use Rattle.std.proofs.Common.{◌≡◌, ◌∙◌, to_z, of_z, to_z-of_z, FitsSigned}
use mir.Syntax.{w128}
use Rattle.rc_base.specs.Numbers.{floor_quotient}
use Rattle.fixed_math.proofs.Signed.{floor_at_most, floor_greatest, floor_within}
use Rattle.fixed_math.proofs.floor.floor_div.Goals as goal

pub returns-clause-at_most : goal.returns-clause-at_most
returns-clause-at_most c =
    let f : FitsSigned w128 c.quotient.result = record { sfits = c.quotient.type_inv } in
    let e : to_z w128 (of_z w128 c.quotient.result) ≡ floor_quotient c.args.n c.args.d =
    to_z-of_z f ∙ c.quotient.ensures ∙ (λ i. floor_quotient (to_z-of_z c.ranges.n i) (to_z-of_z c.ranges.d i)) in
    rw e (floor_at_most c.args.n c.args.d c.requires.pos)

pub returns-clause-greatest : goal.returns-clause-greatest
returns-clause-greatest c =
    let f : FitsSigned w128 c.quotient.result = record { sfits = c.quotient.type_inv } in
    let e : to_z w128 (of_z w128 c.quotient.result) ≡ floor_quotient c.args.n c.args.d =
    to_z-of_z f ∙ c.quotient.ensures ∙ (λ i. floor_quotient (to_z-of_z c.ranges.n i) (to_z-of_z c.ranges.d i)) in
    rw e (floor_greatest c.args.n c.args.d c.requires.pos)

pub returns-clause-small : goal.returns-clause-small
returns-clause-small c b h =
    let f : FitsSigned w128 c.quotient.result = record { sfits = c.quotient.type_inv } in
    let e : to_z w128 (of_z w128 c.quotient.result) ≡ floor_quotient c.args.n c.args.d =
    to_z-of_z f ∙ c.quotient.ensures ∙ (λ i. floor_quotient (to_z-of_z c.ranges.n i) (to_z-of_z c.ranges.d i)) in
    rw e (floor_within c.args.n c.args.d b c.requires.pos h)
