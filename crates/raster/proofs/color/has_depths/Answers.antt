use Rattle.std.proofs.Common.{rules, ◌∙◌, sym, to_z-of_z, w32, FitsSigned}
use Rattle.rc_base.specs.Drawing.Cover.{corner}
use Rattle.raster.proofs.Fragments.{depth_between}
use Rattle.raster.proofs.color.has_depths.Goals as goal

pub returns-then-is_depth-2-clause-fragments : goal.returns-then-is_depth-2-clause-fragments
returns-then-is_depth-2-clause-fragments c h x y t =
    let v = c.args.tri.now.v in
    let f0 : FitsSigned w32 (corner v 0).z = search rules in
    let f1 : FitsSigned w32 (corner v 1).z = search rules in
    let f2 : FitsSigned w32 (corner v 2).z = search rules in
    depth_between v x y (rw c.args.tri.now.area_is at c.args.tri.now.positive)
    (rw (to_z-of_z f0) at (sym c.is_depth.ensures ∙ c.if-is_depth.true))
    (rw (to_z-of_z f1) at (sym c.is_depth-then-is_depth.ensures ∙ c.if-is_depth-2.true))
    (rw (to_z-of_z f2) at (sym c.is_depth-then-is_depth-2.ensures ∙ h)) t
