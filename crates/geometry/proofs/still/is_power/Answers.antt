use Rattle.std.proofs.Common.{◌≡◌, ◌∙◌, ap, sym, arith, ◌^◌, ◌*◌, ◌%◌, ◌<◌, to_z, of_z, to_z-of_z, w32}
use Rattle.std.proofs.lemmas.Int.{to_z_pos}
use Rattle.std.proofs.lemmas.Nat.{pow_below, shl_whole}
use Rattle.geometry.proofs.still.is_power.Goals as goal

pub returns-then-places-lt31-clause-power : goal.returns-then-places-lt31-clause-power
returns-then-places-lt31-clause-power c h =
    let p : 2 ^ c.args.places < 2 ^ 31 = pow_below c.args.places 31 (omega arith) in
    let s : 1 * 2 ^ c.args.places % 2 ^ 32 ≡ 1 * 2 ^ c.args.places = shl_whole 1 1 c.args.places 32 (omega arith) (omega arith) in
    let e : of_z w32 c.args.w ≡ 2 ^ c.args.places = grind (arith, s) in
    sym (to_z-of_z c.ranges.w) ∙ ap (to_z w32) e ∙ to_z_pos w32 (2 ^ c.args.places) p
