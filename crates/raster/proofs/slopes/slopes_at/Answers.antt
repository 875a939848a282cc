use Rattle.std.proofs.Common.{to_z-of_z}
use Rattle.raster.proofs.slopes.slopes_at.Goals as goal

pub returns : goal.returns
returns c = record {
  first = simp (to_z-of_z c.ranges.x0, to_z-of_z c.ranges.y0) at c.slope_at.ensures;
  second = simp (to_z-of_z c.ranges.x0, to_z-of_z c.ranges.y0) at c.slope_at-2.ensures;
  third = simp (to_z-of_z c.ranges.x0, to_z-of_z c.ranges.y0) at c.slope_at-3.ensures;
}
