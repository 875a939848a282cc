use Rattle.std.proofs.Common.{◌≡◌, ℤ, ◌+◌, pos, ◌+ℤ◌, subst, arith, to_z-of_z, FitsSigned, w32}
use Rattle.std.proofs.lemmas.Int.{ints}
use Rattle.raster.specs.EdgeRamps.{IsEdgeRamp}
use Rattle.draw_device.proofs.shade.step_edges.Goals as goal

pub advance-requires : goal.advance-requires
advance-requires c =
    let f : FitsSigned w32 c.column_of-column.result = record { sfits = c.column_of-column.type_inv } in
    let g : FitsSigned w32 c.row_of-line.result = record { sfits = c.row_of-line.type_inv } in
    let column = c.column_of-column.ensures in
    let line = c.row_of-line.ensures in
    rw (to_z-of_z f, to_z-of_z g, column, line) c.requires

pub returns : goal.returns
returns c =
    let f : FitsSigned w32 c.column_of-column.result = record { sfits = c.column_of-column.type_inv } in
    let g : FitsSigned w32 c.row_of-line.result = record { sfits = c.row_of-line.type_inv } in
    let column = c.column_of-column.ensures in
    let line = c.row_of-line.ensures in
    let e : (pos (c.args.extent.left + c.args.x) +ℤ pos 1) ≡ pos (c.args.extent.left + (c.args.x + 1)) = omega (arith, ints) in
    subst (λ (z : ℤ). IsEdgeRamp c.args.corners.now.v z (pos c.args.row) c.advance.new.self) e (rw (to_z-of_z f, to_z-of_z g, column, line) at c.advance.ensures)
