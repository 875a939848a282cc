use Rattle.std.proofs.Common.{to_z-of_z}
use Rattle.raster.proofs.edge_ramp.EdgeRamp.weights.Goals as goal

pub returns : goal.returns
returns c = simp (to_z-of_z c.ranges.x, to_z-of_z c.ranges.y) at c.weights_of.ensures
