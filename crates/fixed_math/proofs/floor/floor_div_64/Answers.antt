use Rattle.std.proofs.Common.{◌≡◌, ◌∙◌, to_z, of_z, to_z-of_z, FitsSigned, w64}
use Rattle.rc_base.specs.Numbers.{floor_quotient}
use Rattle.fixed_math.proofs.Signed.{floor_within}
use Rattle.fixed_math.proofs.floor.floor_div_64.Goals as goal

pub returns-clause-small : goal.returns-clause-small
returns-clause-small c b h =
    let f : FitsSigned w64 c.short_quotient.result = record { sfits = c.short_quotient.type_inv } in
    let e : to_z w64 (of_z w64 c.short_quotient.result) ≡ floor_quotient c.args.n c.args.d =
    to_z-of_z f ∙ c.short_quotient.ensures ∙ (λ i. floor_quotient (to_z-of_z c.ranges.n i) (to_z-of_z c.ranges.d i)) in
    rw e (floor_within c.args.n c.args.d b c.requires.pos h)
