use Rattle.std.proofs.Common.{to_z-of_z, FitsSigned}
use mir.Syntax.{w128}
use Rattle.fixed_math.proofs.matrix.apply.Goals as goal

pub returns-clause-small : goal.returns-clause-small
returns-clause-small c = λ n h.
    let f : FitsSigned w128 c.row.result = record { sfits = c.row.type_inv } in
    let f2 : FitsSigned w128 c.row-2.result = record { sfits = c.row-2.type_inv } in
    let f3 : FitsSigned w128 c.row-3.result = record { sfits = c.row-3.type_inv } in
    let f4 : FitsSigned w128 c.row-4.result = record { sfits = c.row-4.type_inv } in
    rw (to_z-of_z f, to_z-of_z f2, to_z-of_z f3, to_z-of_z f4)
    (c.row.ensures.small n h, c.row-2.ensures.small n h, c.row-3.ensures.small n h, c.row-4.ensures.small n h)
