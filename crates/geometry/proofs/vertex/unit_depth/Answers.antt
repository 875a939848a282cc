use Rattle.std.proofs.Common.{arith, to_z-of_z}
use Rattle.geometry.proofs.Units.{unit_depth_is}
use Rattle.geometry.proofs.vertex.unit_depth.Goals as goal

pub returns : goal.returns
returns c = rw (unit_depth_is c.args.z) (grind (arith, to_z-of_z))
