use Rattle.std.proofs.Common.{◌∙◌, sym, to_z-of_z}
use Rattle.raster.proofs.EdgeRamps.{own_kept, own_strict, own_fits}
use Rattle.raster.proofs.edge_ramp.edge_of.Goals as goal

pub overflow_add-result : goal.overflow_add-result
overflow_add-result c =
    rw (to_z-of_z c.ranges.at) (own_fits c.args.a.now c.args.b.now c.args.x c.args.y c.args.at c.ranges.x c.ranges.y c.requires.edge.from c.requires.edge.to c.requires.value)

pub returns-then-keeps : goal.returns-then-keeps
returns-then-keeps c =
    rw (to_z-of_z c.ranges.at) (own_kept _ c.args.at _ (sym c.keeps.ensures ∙ c.if-keeps.true) c.requires.value)

pub returns-else-keeps : goal.returns-else-keeps
returns-else-keeps c =
    let f = own_fits c.args.a.now c.args.b.now c.args.x c.args.y c.args.at c.ranges.x c.ranges.y c.requires.edge.from c.requires.edge.to c.requires.value in
    rw (to_z-of_z c.ranges.at, to_z-of_z f) (own_strict _ c.args.at _ (sym c.keeps.ensures ∙ c.if-keeps.false) c.requires.value)
