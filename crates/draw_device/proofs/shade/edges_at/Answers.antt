use Rattle.std.proofs.Common.{to_z-of_z, FitsSigned, w32}
use Rattle.draw_device.proofs.shade.edges_at.Goals as goal

pub returns : goal.returns
returns c =
    let f : FitsSigned w32 c.column_of-column.result = record { sfits = c.column_of-column.type_inv } in
    let g : FitsSigned w32 c.row_of-line.result = record { sfits = c.row_of-line.type_inv } in
    let column = c.column_of-column.ensures in
    let line = c.row_of-line.ensures in
    rw (to_z-of_z f, to_z-of_z g, column, line) at c.edges_from.ensures
