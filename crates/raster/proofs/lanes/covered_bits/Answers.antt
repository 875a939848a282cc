use Rattle.std.proofs.Common.{to_z-of_z}
use Rattle.rc_base.specs.Drawing.Cover.{corner}
use Rattle.raster.proofs.EdgeLanes.{lanes_back}
use Rattle.raster.proofs.LaneBits.{covered_bits}
use Rattle.raster.proofs.lanes.covered_bits.Goals as goal

pub edge_bits-first-requires-clause-lanes : goal.edge_bits-first-requires-clause-lanes
edge_bits-first-requires-clause-lanes c =
    let v = c.args.tri.now.v in
    let b = c.args.tri.now.bounded in
    rw (to_z-of_z c.ranges.x, to_z-of_z c.ranges.y0) (lanes_back (corner v 0) (corner v 1) c.args.x c.args.y0 c.args.lanes.now.first c.ranges.x c.ranges.y0 b.0 b.1 c.requires.first)

pub edge_bits-second-requires-clause-lanes : goal.edge_bits-second-requires-clause-lanes
edge_bits-second-requires-clause-lanes c =
    let v = c.args.tri.now.v in
    let b = c.args.tri.now.bounded in
    rw (to_z-of_z c.ranges.x, to_z-of_z c.ranges.y0) (lanes_back (corner v 1) (corner v 2) c.args.x c.args.y0 c.args.lanes.now.second c.ranges.x c.ranges.y0 b.1 b.2 c.requires.second)

pub edge_bits-third-requires-clause-lanes : goal.edge_bits-third-requires-clause-lanes
edge_bits-third-requires-clause-lanes c =
    let v = c.args.tri.now.v in
    let b = c.args.tri.now.bounded in
    rw (to_z-of_z c.ranges.x, to_z-of_z c.ranges.y0) (lanes_back (corner v 2) (corner v 0) c.args.x c.args.y0 c.args.lanes.now.third c.ranges.x c.ranges.y0 b.2 b.0 c.requires.third)

pub returns : goal.returns
returns c =
    covered_bits c.args.tri.now.v c.args.x c.args.y c.edge_bits-first.result c.edge_bits-second.result c.edge_bits-third.result c.edge_bits-first.ensures.eight
    (rw (to_z-of_z c.ranges.x, to_z-of_z c.ranges.y) at c.edge_bits-first.ensures.each)
    (rw (to_z-of_z c.ranges.x, to_z-of_z c.ranges.y) at c.edge_bits-second.ensures.each)
    (rw (to_z-of_z c.ranges.x, to_z-of_z c.ranges.y) at c.edge_bits-third.ensures.each)
