use Rattle.std.proofs.Common.{◌≡◌, ◌∙◌, ◌^◌, ◌*ℤ◌, pos, arith, ap, to_z-of_z}
use Rattle.std.proofs.lemmas.Int.{ints}
use Rattle.rc_base.specs.Drawing.Window.{axis_of}
use Rattle.rc_base.specs.Intervals.{quotient_over}
use Rattle.rc_base.specs.declared.interval.Interval.{Interval}
use Rattle.rc_base.specs.Cluster.ObjectBox.{axis_over, dividends, divisors, moved_by}
use Rattle.bounds_bucket.proofs.Places.{dividends_ordered, unit_axis_over_is}
use Rattle.bounds_bucket.proofs.reach.axis_over.Goals as goal

pub returns-then-is_unit-clause-value : goal.returns-then-is_unit-clause-value
returns-then-is_unit-clause-value c =
    let ends : Interval = record { lo = axis_of c.args.origin c.args.size c.args.x.lo (pos 65536); hi = axis_of c.args.origin c.args.size c.args.x.hi (pos 65536) } in
    let one = c.is_unit.ensures.one c.if-is_unit.true in
    let e : c.unit_axis_over.result ≡ ends = simp (to_z-of_z c.ranges.origin, to_z-of_z c.ranges.size) at c.unit_axis_over.ensures.value in
    e ∙ unit_axis_over_is c.args.origin c.args.size c.args.x c.args.w one.0 one.1

pub quotient-requires-clause-numerator : goal.quotient-requires-clause-numerator
quotient-requires-clause-numerator c =
    let e : c.dividends.result ≡ dividends c.args.size c.args.x c.args.w = simp (to_z-of_z c.ranges.size) at c.dividends.ensures.value in
    rw e (dividends_ordered c.args.size c.args.x c.args.w c.requires.size c.requires.x_ordered c.requires.w_ordered)

pub quotient-requires-clause-positive : goal.quotient-requires-clause-positive
quotient-requires-clause-positive c = rw c.divisors.ensures (let h = c.requires.above in omega (arith, ints))

pub quotient-requires-clause-divisor : goal.quotient-requires-clause-divisor
quotient-requires-clause-divisor c = rw c.divisors.ensures (let h = c.requires.w_ordered in omega (arith, ints))

pub moved_by-requires : goal.moved_by-requires
moved_by-requires c = c.quotient.ensures.small (2 ^ 101) c.dividends.ensures.small

pub returns-clause-value : goal.returns-clause-value
unfolding axis_over
returns-clause-value c =
    let e : c.dividends.result ≡ dividends c.args.size c.args.x c.args.w = simp (to_z-of_z c.ranges.size) at c.dividends.ensures.value in
    let q : c.quotient.result ≡ quotient_over (dividends c.args.size c.args.x c.args.w) (divisors c.args.w) = c.quotient.ensures.value ∙ (λ i. quotient_over (e i) (c.divisors.ensures i)) in
    let m : c.moved_by.result ≡ moved_by (pos 16 *ℤ c.args.origin) c.quotient.result = simp (to_z-of_z c.ranges.origin) at c.moved_by.ensures.value in
    m ∙ ap (moved_by (pos 16 *ℤ c.args.origin)) q
