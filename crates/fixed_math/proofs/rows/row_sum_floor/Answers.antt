use Rattle.std.proofs.Common.{◌≡◌, arith, to_z-of_z, to_z, of_z, pos, ◌+ℤ◌}
use Rattle.rc_base.specs.Numbers.{fixed_one, floor_quotient}
use mir.Syntax.{w128}
use Rattle.fixed_math.proofs.Signed.{row_within}
use Rattle.fixed_math.proofs.rows.row_sum_floor.Goals as goal

pub returns-clause-small : goal.returns-clause-small
returns-clause-small c = λ n h.
    let q : to_z w128 (of_z w128 c.floor_div.result) ≡ floor_quotient (c.args.a +ℤ c.args.b +ℤ c.args.c +ℤ c.args.d) (pos fixed_one) = grind (arith, to_z-of_z) in
    rw q (row_within c.args.a c.args.b c.args.c c.args.d n h.0 h.1 h.2 h.3)
