use Rattle.std.proofs.Common.{rules, sym, to_z-of_z, FitsSigned, w32}
use Rattle.rc_base.specs.Drawing.Cover.{corner}
use Rattle.raster.proofs.word_plane.depth_plane.Goals as goal

pub returns : goal.returns
returns c x y s =
    let v = c.args.tri.now.v in
    let z0 : FitsSigned w32 (corner v 0).z = search rules in
    let z1 : FitsSigned w32 (corner v 1).z = search rules in
    let z2 : FitsSigned w32 (corner v 2).z = search rules in
    c.word_plane_of.ensures v x y _ s (sym (to_z-of_z z0), sym (to_z-of_z z1), sym (to_z-of_z z2))
