use Rattle.std.proofs.Common.{to_z-of_z, FitsSigned}
use mir.Syntax.{w128}
use Rattle.rc_base.specs.Intervals.{row_over}
use Rattle.fixed_math.proofs.IntervalEnds.{row_in, row_ordered}
use Rattle.fixed_math.proofs.rows.row_over.Goals as goal

pub returns-clause-holds : goal.returns-clause-holds
unfolding row_over
returns-clause-holds c = λ v h.
    let f : FitsSigned w128 c.least_row.result = record { sfits = c.least_row.type_inv } in
    let g : FitsSigned w128 c.greatest_row.result = record { sfits = c.greatest_row.type_inv } in
    rw (to_z-of_z f, to_z-of_z g, c.least_row.ensures.value, c.greatest_row.ensures.value) (row_in c.args.m.now.m c.args.r c.args.b.now v h)

pub returns-clause-ordered : goal.returns-clause-ordered
unfolding row_over
returns-clause-ordered c =
    let f : FitsSigned w128 c.least_row.result = record { sfits = c.least_row.type_inv } in
    let g : FitsSigned w128 c.greatest_row.result = record { sfits = c.greatest_row.type_inv } in
    rw (to_z-of_z f, to_z-of_z g, c.least_row.ensures.value, c.greatest_row.ensures.value) (row_ordered c.args.m.now.m c.args.r c.args.b.now c.requires.ordered)

pub returns-clause-small : goal.returns-clause-small
returns-clause-small c = λ n h.
    let f : FitsSigned w128 c.least_row.result = record { sfits = c.least_row.type_inv } in
    let g : FitsSigned w128 c.greatest_row.result = record { sfits = c.greatest_row.type_inv } in
    rw (to_z-of_z f, to_z-of_z g) (record { low = c.least_row.ensures.small n h; high = c.greatest_row.ensures.small n h })
