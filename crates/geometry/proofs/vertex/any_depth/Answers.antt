use Rattle.std.proofs.Common.{arith, to_z-of_z}
use Rattle.rc_base.specs.Drawing.Window.{depth_of}
use Rattle.geometry.proofs.vertex.any_depth.Goals as goal

pub returns : goal.returns
unfolding depth_of
returns c = grind (arith, to_z-of_z)
