use Rattle.std.proofs.Common.{arith, to_z-of_z}
use Rattle.geometry.proofs.Units.{unit_axis_is}
use Rattle.geometry.proofs.vertex.unit_axis.Goals as goal

pub returns : goal.returns
returns c = rw (unit_axis_is c.args.origin c.args.size c.args.x) (grind (arith, to_z-of_z))
