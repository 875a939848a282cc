use Rattle.std.proofs.Common.{◌≡◌, arith, to_z-of_z, to_z, of_z, pos, ◌+ℤ◌, FitsSigned, slice_index_or, rules}
use Rattle.rc_base.specs.Numbers.{fixed_one, floor_quotient}
use mir.Syntax.{w128}
use Rattle.fixed_math.proofs.Signed.{row_within}
use Rattle.fixed_math.proofs.matrix.row.Goals as goal

pub returns-clause-value : goal.returns-clause-value
returns-clause-value c = grind (arith, to_z-of_z)

pub returns-clause-small : goal.returns-clause-small
returns-clause-small c = λ n h.
    let v = c.args.v.now in
    let g0 : FitsSigned w128 (slice_index_or v 0 (pos 0)) = search rules in
    let g1 : FitsSigned w128 (slice_index_or v 1 (pos 0)) = search rules in
    let g2 : FitsSigned w128 (slice_index_or v 2 (pos 0)) = search rules in
    let g3 : FitsSigned w128 (slice_index_or v 3 (pos 0)) = search rules in
    let a = c.term-a.ensures.small n (rw (to_z-of_z g0) h.0) in
    let b = c.term-b.ensures.small n (rw (to_z-of_z g1) h.1) in
    let d = c.term-c.ensures.small n (rw (to_z-of_z g2) h.2) in
    let e = c.term-d.ensures.small n (rw (to_z-of_z g3) h.3) in
    let q : to_z w128 (of_z w128 c.floor_div.result) ≡ floor_quotient (c.term-a.result +ℤ c.term-b.result +ℤ c.term-c.result +ℤ c.term-d.result) (pos fixed_one) = grind (arith, to_z-of_z) in
    rw q (row_within c.term-a.result c.term-b.result c.term-c.result c.term-d.result n a b d e)
