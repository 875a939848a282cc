use Rattle.std.proofs.Common.{◌≡◌, ◌*◌, ◌^◌, arith, to_z-of_z, to_z, of_z, FitsSigned}
use mir.Syntax.{w128}
use Rattle.std.specs.Int.{int_min}
use Rattle.std.proofs.lemmas.Int.{ints}
use Rattle.fixed_math.proofs.IntervalEnds.{min_within}
use Rattle.fixed_math.proofs.rows.least_product.Goals as goal

pub returns-clause-small : goal.returns-clause-small
returns-clause-small c = λ n h.
    let low : to_z w128 (of_z w128 c.args.i.lo) ≡ c.args.i.lo = omega (arith, ints) in
    let high : to_z w128 (of_z w128 c.args.i.hi) ≡ c.args.i.hi = omega (arith, ints) in
    let f : FitsSigned w128 c.term.result = record { sfits = c.term.type_inv } in
    let g : FitsSigned w128 c.term-2.result = record { sfits = c.term-2.type_inv } in
    let k : FitsSigned w128 c.min.result = record { sfits = c.min.type_inv } in
    let e : c.min.result ≡ int_min c.term.result c.term-2.result = simp (to_z-of_z f, to_z-of_z g) at c.min.ensures.value in
    rw (to_z-of_z k, e)
    (min_within c.term.result c.term-2.result (2 ^ 31 * n) (c.term.ensures.small n (rw low h.low)) (c.term-2.ensures.small n (rw high h.high)))
