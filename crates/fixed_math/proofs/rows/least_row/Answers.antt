use Rattle.std.proofs.Common.{arith, ◌^◌, to_z-of_z, FitsSigned}
use mir.Syntax.{w128}
use Rattle.fixed_math.proofs.rows.least_row.Goals as goal

pub row_sum_floor-requires : goal.row_sum_floor-requires
row_sum_floor-requires c =
    let x : FitsSigned w128 c.least_product-x.result = record { sfits = c.least_product-x.type_inv } in
    let y : FitsSigned w128 c.least_product-y.result = record { sfits = c.least_product-y.type_inv } in
    let z : FitsSigned w128 c.least_product-z.result = record { sfits = c.least_product-z.type_inv } in
    let w : FitsSigned w128 c.least_product-w.result = record { sfits = c.least_product-w.type_inv } in
    let h = c.requires.bounded in
    rw (to_z-of_z x, to_z-of_z y, to_z-of_z z, to_z-of_z w)
    (c.least_product-x.ensures.small (2 ^ 64) h.first, c.least_product-y.ensures.small (2 ^ 64) h.second, c.least_product-z.ensures.small (2 ^ 64) h.third, c.least_product-w.ensures.small (2 ^ 64) h.fourth)

pub returns-clause-value : goal.returns-clause-value
returns-clause-value c = grind (arith, to_z-of_z)

pub returns-clause-small : goal.returns-clause-small
returns-clause-small c = λ n h.
    let x : FitsSigned w128 c.least_product-x.result = record { sfits = c.least_product-x.type_inv } in
    let y : FitsSigned w128 c.least_product-y.result = record { sfits = c.least_product-y.type_inv } in
    let z : FitsSigned w128 c.least_product-z.result = record { sfits = c.least_product-z.type_inv } in
    let w : FitsSigned w128 c.least_product-w.result = record { sfits = c.least_product-w.type_inv } in
    let r : FitsSigned w128 c.row_sum_floor.result = record { sfits = c.row_sum_floor.type_inv } in
    rw (to_z-of_z r)
    (c.row_sum_floor.ensures.small n
    (rw (to_z-of_z x, to_z-of_z y, to_z-of_z z, to_z-of_z w)
    (c.least_product-x.ensures.small n h.first, c.least_product-y.ensures.small n h.second, c.least_product-z.ensures.small n h.third, c.least_product-w.ensures.small n h.fourth)))
