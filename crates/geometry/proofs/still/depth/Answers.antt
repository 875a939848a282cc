use Rattle.std.proofs.Common.{arith, to_z-of_z}
use Rattle.geometry.proofs.Units.{halved_depth_is}
use Rattle.geometry.proofs.still.depth.Goals as goal

pub returns : goal.returns
returns c = rw (halved_depth_is c.args.z c.args.d.w c.args.d.positive) (grind (arith, to_z-of_z))
