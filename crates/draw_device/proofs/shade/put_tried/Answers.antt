use Rattle.std.proofs.Common.{◌≡◌, ◌+◌, ◌∙◌, sym, refl, true, false, pos, to_z-of_z, FitsSigned, w32}
use Rattle.rc_base.specs.Drawing.Cover.{is_inside}
use Rattle.draw_device.proofs.shade.put_tried.Goals as goal

pub covers-requires : goal.covers-requires
covers-requires c =
    let f : FitsSigned w32 c.column_of-column.result = record { sfits = c.column_of-column.type_inv } in
    let g : FitsSigned w32 c.row_of-line.result = record { sfits = c.row_of-line.type_inv } in
    let column = c.column_of-column.ensures in
    let line = c.row_of-line.ensures in
    rw (to_z-of_z f, to_z-of_z g, column, line) c.requires.edges

pub returns-then-not-covers : goal.returns-then-not-covers
returns-then-not-covers c =
    let s = c.args.setup.now in
    let f : FitsSigned w32 c.column_of-column.result = record { sfits = c.column_of-column.type_inv } in
    let g : FitsSigned w32 c.row_of-line.result = record { sfits = c.row_of-line.type_inv } in
    let column = c.column_of-column.ensures in
    let line = c.row_of-line.ensures in
    let i : is_inside s.tri.now.v (pos (s.extent.left + c.args.x)) (pos c.args.row) ≡ false = rw (to_z-of_z f, to_z-of_z g, column, line, c.requires.corners) at (sym c.covers.ensures ∙ c.if-not-covers.true) in
    sym (rw i refl)

pub weights-w-requires-clause-edges : goal.weights-w-requires-clause-edges
weights-w-requires-clause-edges c =
    let f : FitsSigned w32 c.column_of-column.result = record { sfits = c.column_of-column.type_inv } in
    let g : FitsSigned w32 c.row_of-line.result = record { sfits = c.row_of-line.type_inv } in
    let column = c.column_of-column.ensures in
    let line = c.row_of-line.ensures in
    rw (to_z-of_z f, to_z-of_z g, column, line) c.requires.edges

pub weights-w-requires-clause-inside : goal.weights-w-requires-clause-inside
weights-w-requires-clause-inside c = sym c.covers.ensures ∙ c.if-not-covers.false

pub put_weighed-requires-clause-inside : goal.put_weighed-requires-clause-inside
put_weighed-requires-clause-inside c = rw c.requires.corners at (sym c.covers.ensures ∙ c.if-not-covers.false)

pub put_weighed-requires-clause-weights : goal.put_weighed-requires-clause-weights
put_weighed-requires-clause-weights c = rw c.requires.corners at c.weights-w.ensures

pub returns : goal.returns
returns c =
    let s = c.args.setup.now in
    let f : FitsSigned w32 c.column_of-column.result = record { sfits = c.column_of-column.type_inv } in
    let g : FitsSigned w32 c.row_of-line.result = record { sfits = c.row_of-line.type_inv } in
    let column = c.column_of-column.ensures in
    let line = c.row_of-line.ensures in
    let i : is_inside s.tri.now.v (pos (s.extent.left + c.args.x)) (pos c.args.row) ≡ true = rw (to_z-of_z f, to_z-of_z g, column, line, c.requires.corners) at (sym c.covers.ensures ∙ c.if-not-covers.false) in
    (rw (to_z-of_z f, to_z-of_z g, column, line) at c.put_weighed.ensures) ∙ sym (rw i refl)
