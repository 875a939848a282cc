use Rattle.std.proofs.Common.{◌≡◌, ◌∙◌, ap, sym, arith, ◌^◌, ◌*◌, ◌%◌, ◌<◌, to_z, of_z, to_z-of_z, w64}
use Rattle.std.proofs.lemmas.Int.{to_z_pos}
use Rattle.std.proofs.lemmas.Nat.{pow_below, shl_whole}
use Rattle.fixed_math.proofs.floor.is_power.Goals as goal

pub returns-then-places-lt63-clause-power : goal.returns-then-places-lt63-clause-power
returns-then-places-lt63-clause-power c h =
    let p : 2 ^ c.args.places < 2 ^ 63 = pow_below c.args.places 63 (omega arith) in
    let s : 1 * 2 ^ c.args.places % 2 ^ 64 ≡ 1 * 2 ^ c.args.places = shl_whole 1 1 c.args.places 64 (omega arith) (omega arith) in
    let e : of_z w64 c.args.d ≡ 2 ^ c.args.places = grind (arith, s) in
    sym (to_z-of_z c.ranges.d) ∙ ap (to_z w64) e ∙ to_z_pos w64 (2 ^ c.args.places) p
