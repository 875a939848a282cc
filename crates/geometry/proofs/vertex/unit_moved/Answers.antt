use Rattle.std.proofs.Common.{◌≡◌, ◌∙◌, ap, arith, to_z, of_z, to_z-of_z, FitsSigned, pos, w64, ◌^◌, ◌+◌}
use Rattle.std.proofs.lemmas.Int.{ints}
use Rattle.rc_base.specs.Numbers.{floor_quotient}
use Rattle.fixed_math.proofs.Signed.{floor_within}
use Rattle.geometry.proofs.vertex.unit_moved.Goals as goal

pub returns : goal.returns
returns c =
    let f : FitsSigned w64 c.div_euclid.result = record { sfits = c.div_euclid.type_inv } in
    let e : to_z w64 (of_z w64 c.div_euclid.result) ≡ floor_quotient c.args.scaled (pos 8192) = to_z-of_z f ∙ c.div_euclid.ensures ∙ ap (λ n. floor_quotient n (pos 8192)) (to_z-of_z c.ranges.scaled) in
    let w = floor_within c.args.scaled (pos 8192) (2 ^ 62 + 2 ^ 47) (omega (arith, ints)) c.requires in
    grind (arith, to_z-of_z)
