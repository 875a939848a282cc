use Rattle.std.proofs.Common.{rules, sym, to_z-of_z, FitsSigned, w32}
use Rattle.rc_base.specs.Drawing.Cover.{corner}
use Rattle.raster.proofs.word_plane.coordinate_planes.Goals as goal

pub returns-clause-s : goal.returns-clause-s
returns-clause-s c x y s =
    let v = c.args.tri.now.v in
    let z0 : FitsSigned w32 (corner v 0).s = search rules in
    let z1 : FitsSigned w32 (corner v 1).s = search rules in
    let z2 : FitsSigned w32 (corner v 2).s = search rules in
    c.word_plane_of.ensures v x y _ s (sym (to_z-of_z z0), sym (to_z-of_z z1), sym (to_z-of_z z2))

pub returns-clause-t : goal.returns-clause-t
returns-clause-t c x y s =
    let v = c.args.tri.now.v in
    let z0 : FitsSigned w32 (corner v 0).t = search rules in
    let z1 : FitsSigned w32 (corner v 1).t = search rules in
    let z2 : FitsSigned w32 (corner v 2).t = search rules in
    c.word_plane_of-2.ensures v x y _ s (sym (to_z-of_z z0), sym (to_z-of_z z1), sym (to_z-of_z z2))
