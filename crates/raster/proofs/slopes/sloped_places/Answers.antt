use Rattle.std.proofs.Common.{to_z-of_z}
use Rattle.raster.proofs.SlopesToSpan.{common_empty, common_span}
use Rattle.raster.proofs.slopes.sloped_places.Goals as goal

pub returns-clause-none : goal.returns-clause-none
returns-clause-none c empty =
    common_empty c.args.tri.now.v c.args.y (record { x0 = c.args.x0; x1 = c.args.x1 }) c.kept_by-first.result c.kept_by-second.result c.kept_by-third.result c.common-2.result
    (rw (to_z-of_z c.ranges.y, to_z-of_z c.ranges.x0, to_z-of_z c.ranges.x1) at c.kept_by-first.ensures)
    (rw (to_z-of_z c.ranges.y, to_z-of_z c.ranges.x0, to_z-of_z c.ranges.x1) at c.kept_by-second.ensures)
    (rw (to_z-of_z c.ranges.y, to_z-of_z c.ranges.x0, to_z-of_z c.ranges.x1) at c.kept_by-third.ensures)
    (rw c.common.ensures.low at c.common-2.ensures.low) (rw c.common.ensures.high at c.common-2.ensures.high) empty

pub returns-clause-some : goal.returns-clause-some
returns-clause-some c some =
    common_span c.args.tri.now.v c.args.y (record { x0 = c.args.x0; x1 = c.args.x1 }) c.kept_by-first.result c.kept_by-second.result c.kept_by-third.result c.common-2.result
    (rw (to_z-of_z c.ranges.y, to_z-of_z c.ranges.x0, to_z-of_z c.ranges.x1) at c.kept_by-first.ensures)
    (rw (to_z-of_z c.ranges.y, to_z-of_z c.ranges.x0, to_z-of_z c.ranges.x1) at c.kept_by-second.ensures)
    (rw (to_z-of_z c.ranges.y, to_z-of_z c.ranges.x0, to_z-of_z c.ranges.x1) at c.kept_by-third.ensures)
    (rw c.common.ensures.low at c.common-2.ensures.low) (rw c.common.ensures.high at c.common-2.ensures.high) some
