use Rattle.std.proofs.Common.{arith, to_z-of_z}
use Rattle.geometry.proofs.Units.{short_depth_is}
use Rattle.geometry.proofs.vertex.whole_depth.Goals as goal

pub returns : goal.returns
returns c = rw (short_depth_is c.args.z c.args.w c.requires.positive) (grind (arith, to_z-of_z))
