use Rattle.std.proofs.Common.{◌∙◌, rules, to_z-of_z, w32, FitsSigned}
use Rattle.rc_base.specs.Drawing.Fragment.{fragment_of}
use Rattle.rc_base.specs.Drawing.Cover.{corner}
use Rattle.rc_base.specs.declared.window.WindowVertex.{WindowVertex}
use Rattle.raster.proofs.Fragments.{mean_is}
use Rattle.raster.proofs.fragment.depth_at.Goals as goal

pub returns : goal.returns
unfolding fragment_of
returns c =
    let v = c.args.tri.now.v in
    let w = c.args.w.now in
    let z0 : FitsSigned w32 (corner v 0).z = search rules in
    let z1 : FitsSigned w32 (corner v 1).z = search rules in
    let z2 : FitsSigned w32 (corner v 2).z = search rules in
    let f : FitsSigned w32 c.mean.result = record { sfits = c.mean.type_inv } in
    to_z-of_z f ∙ simp (to_z-of_z z0, to_z-of_z z1, to_z-of_z z2) at c.mean.ensures
    ∙ mean_is v c.args.x c.args.y (λ (a : WindowVertex). a.z) w.first w.second w.third w.area c.requires.first c.requires.second c.requires.third c.requires.area
