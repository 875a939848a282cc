use Rattle.std.proofs.Common.{to_z-of_z}
use Rattle.rc_base.specs.Drawing.Cover.{corner}
use Rattle.raster.proofs.EdgeLanes.{lanes_back}
use Rattle.raster.proofs.lanes.lanes_at.Goals as goal

pub returns : goal.returns
returns c =
    let t = c.args.tri.now in
    let v = t.v in
    let b = t.bounded in
    record {
      first = lanes_back (corner v 0) (corner v 1) c.args.x c.args.y c.edge_lanes.result c.ranges.x c.ranges.y b.0 b.1 (rw (to_z-of_z c.ranges.x, to_z-of_z c.ranges.y) at c.edge_lanes.ensures);
      second = lanes_back (corner v 1) (corner v 2) c.args.x c.args.y c.edge_lanes-2.result c.ranges.x c.ranges.y b.1 b.2 (rw (to_z-of_z c.ranges.x, to_z-of_z c.ranges.y) at c.edge_lanes-2.ensures);
      third = lanes_back (corner v 2) (corner v 0) c.args.x c.args.y c.edge_lanes-3.result c.ranges.x c.ranges.y b.2 b.0 (rw (to_z-of_z c.ranges.x, to_z-of_z c.ranges.y) at c.edge_lanes-3.ensures);
    }
