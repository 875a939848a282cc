use Rattle.std.proofs.Common.{◌≡◌, w32, to_z, of_z, arith, rules}
use Rattle.std.proofs.lemmas.Int.{ints}
use Rattle.rc_base.specs.Numbers.{entry}
use Rattle.raster.proofs.Clipping.{part_is}
use Rattle.raster.proofs.clip.part_in.Goals as goal

pub returns : goal.returns
returns c =
    let a : to_z w32 (of_z w32 c.cut-x0.result.0) ≡ c.cut-x0.result.0 = omega (arith, ints) in
    let b : to_z w32 (of_z w32 c.cut-x0.result.1) ≡ c.cut-x0.result.1 = omega (arith, ints) in
    let d : to_z w32 (of_z w32 c.cut-y0.result.0) ≡ c.cut-y0.result.0 = omega (arith, ints) in
    let e : to_z w32 (of_z w32 c.cut-y0.result.1) ≡ c.cut-y0.result.1 = omega (arith, ints) in
    let x0 : to_z w32 (of_z w32 c.args.rect.x0) ≡ c.args.rect.x0 = omega (arith, ints) in
    let x1 : to_z w32 (of_z w32 c.args.rect.x1) ≡ c.args.rect.x1 = omega (arith, ints) in
    let y0 : to_z w32 (of_z w32 c.args.rect.y0) ≡ c.args.rect.y0 = omega (arith, ints) in
    let y1 : to_z w32 (of_z w32 c.args.rect.y1) ≡ c.args.rect.y1 = omega (arith, ints) in
    let ax : to_z w32 (of_z w32 (entry c.args.area 0)) ≡ entry c.args.area 0 = search rules in
    let ay : to_z w32 (of_z w32 (entry c.args.area 1)) ≡ entry c.args.area 1 = search rules in
    let aw : to_z w32 (of_z w32 (entry c.args.area 2)) ≡ entry c.args.area 2 = search rules in
    let ah : to_z w32 (of_z w32 (entry c.args.area 3)) ≡ entry c.args.area 3 = search rules in
    rw (a, b, d, e)
    (part_is c.args.rect c.args.area c.cut-x0.result.0 c.cut-x0.result.1 c.cut-y0.result.0 c.cut-y0.result.1
    (simp (x0, x1, ax, aw) at c.cut-x0.ensures) (simp (y0, y1, ay, ah) at c.cut-y0.ensures))
