use Rattle.std.proofs.Common.{◌≡◌, ◌∙◌, to_z, of_z, to_z-of_z, FitsSigned, w64}
use Rattle.rc_base.specs.Numbers.{floor_quotient}
use Rattle.fixed_math.proofs.Signed.{floor_within}
use Rattle.geometry.proofs.still.quotient.Goals as goal

pub returns-clause-small : goal.returns-clause-small
returns-clause-small c b h =
    let f : FitsSigned w64 c.floor_by.result = record { sfits = c.floor_by.type_inv } in
    let e : to_z w64 (of_z w64 c.floor_by.result) ≡ floor_quotient c.args.n c.args.d.w =
    to_z-of_z f ∙ c.floor_by.ensures ∙ (λ i. floor_quotient (to_z-of_z c.ranges.n i) c.args.d.w) in
    rw e (floor_within c.args.n c.args.d.w b c.args.d.positive h)
