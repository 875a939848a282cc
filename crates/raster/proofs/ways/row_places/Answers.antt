use Rattle.std.proofs.Common.{to_z-of_z}
use Rattle.raster.proofs.KeptColumns.{row_kept, row_empty}
use Rattle.raster.proofs.ways.row_places.Goals as goal

pub returns-clause-none : goal.returns-clause-none
returns-clause-none c empty =
    row_empty c.args.tri.now.v c.args.y (record { x0 = c.args.x0; x1 = c.args.x1 }) c.kept_columns-first.result c.kept_columns-second.result c.kept_columns.result
    (rw (to_z-of_z c.ranges.y, to_z-of_z c.ranges.x0, to_z-of_z c.ranges.x1) at c.kept_columns-first.ensures)
    (rw (to_z-of_z c.ranges.y) at c.kept_columns-second.ensures) (rw (to_z-of_z c.ranges.y) at c.kept_columns.ensures) empty

pub returns-clause-some : goal.returns-clause-some
returns-clause-some c some =
    row_kept c.args.tri.now.v c.args.y (record { x0 = c.args.x0; x1 = c.args.x1 }) c.kept_columns-first.result c.kept_columns-second.result c.kept_columns.result
    (rw (to_z-of_z c.ranges.y, to_z-of_z c.ranges.x0, to_z-of_z c.ranges.x1) at c.kept_columns-first.ensures)
    (rw (to_z-of_z c.ranges.y) at c.kept_columns-second.ensures) (rw (to_z-of_z c.ranges.y) at c.kept_columns.ensures) some
