use Rattle.std.proofs.Common.{to_z-of_z}
use Rattle.raster.proofs.EdgeRamps.{next_value, next_fits}
use Rattle.raster.proofs.edge_ramp.value_after.Goals as goal

pub overflow_add-result : goal.overflow_add-result
overflow_add-result c =
    rw (to_z-of_z c.ranges.at, to_z-of_z c.ranges.gain)
    (next_fits c.args.a.now c.args.b.now c.args.x c.args.y c.args.at c.args.gain c.ranges.x c.ranges.y c.requires.edge.from c.requires.edge.to c.requires.value c.requires.gain)

pub returns : goal.returns
returns c =
    let f = next_fits c.args.a.now c.args.b.now c.args.x c.args.y c.args.at c.args.gain c.ranges.x c.ranges.y c.requires.edge.from c.requires.edge.to c.requires.value c.requires.gain in
    rw (to_z-of_z c.ranges.at, to_z-of_z c.ranges.gain, to_z-of_z f)
    (next_value c.args.a.now c.args.b.now c.args.x c.args.y c.args.at c.args.gain c.requires.value c.requires.gain)
