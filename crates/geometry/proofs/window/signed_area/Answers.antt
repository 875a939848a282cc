use Rattle.std.proofs.Common.{◌≡◌, to_z-of_z, to_z, of_z, w64, arith}
use Rattle.rc_base.specs.Drawing.Cover.{triangle_area}
use Rattle.rc_base.specs.Drawing.Kept.{three}
use Rattle.fixed_math.proofs.Areas.{area_within}
use Rattle.geometry.proofs.window.signed_area.Goals as goal

pub returns-clause-small : goal.returns-clause-small
returns-clause-small c =
    let e : to_z w64 (of_z w64 c.edge.result) ≡ triangle_area (three c.args.a.now c.args.b.now c.args.c.now) = grind (arith, to_z-of_z) in
    rw e (area_within (three c.args.a.now c.args.b.now c.args.c.now) (c.requires.first, c.requires.second, c.requires.third))
