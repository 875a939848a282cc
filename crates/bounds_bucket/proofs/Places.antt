-- Window coordinates of clip coordinates that lie in intervals.
use Rattle.std.proofs.Common.{◌≡◌, Bool, true, false, refl, sym, ℤ, pos, ◌+ℤ◌, ◌*ℤ◌, ◌≤ℤ◌, ◌<ℤ◌, arith}
use Rattle.std.specs.Prelude.{int_le, if◌then◌else◌}
use Rattle.std.proofs.lemmas.Int.{ints}
use lib.IntN.{*ℤ_comm}
use Rattle.rc_base.specs.Numbers.{floor_quotient}
use Rattle.rc_base.specs.Drawing.Window.{axis_of}
use Rattle.fixed_math.proofs.Signed.{mul_mono}
use Rattle.rc_base.specs.Intervals.{Encloses, IsOrdered, quotient_over}
use Rattle.rc_base.specs.declared.interval.Interval.{Interval}
use Rattle.fixed_math.proofs.IntervalEnds.{quotient_in}
use Rattle.rc_base.specs.Cluster.ObjectBox.{axis_over, dividends, divisors}

scaled_mono : (a b size : ℤ) → pos 0 ≤ℤ size → a ≤ℤ b → (a *ℤ size *ℤ pos 16) ≤ℤ (b *ℤ size *ℤ pos 16)
scaled_mono a b size h k =
    let m = mul_mono size a b h k in
    let e = *ℤ_comm size a in
    let f = *ℤ_comm size b in
    let n : (a *ℤ size) ≤ℤ (b *ℤ size) = omega (arith, ints, m, e, f) in
    sixteen (a *ℤ size) (b *ℤ size) n
  where
    sixteen : (p q : ℤ) → p ≤ℤ q → (p *ℤ pos 16) ≤ℤ (q *ℤ pos 16)
    sixteen p q n = omega (arith, ints)

pub dividends_ordered : (size : ℤ) (x w : Interval) → pos 0 ≤ℤ size → IsOrdered x → IsOrdered w → IsOrdered (dividends size x w)
dividends_ordered size x w some h k = scaled_mono (x.lo +ℤ w.lo) (x.hi +ℤ w.hi) size some (omega (arith, ints))

pub axis_in : (origin size : ℤ) (x w : Interval) (px pw : ℤ) → pos 0 ≤ℤ size → pos 0 <ℤ w.lo → Encloses x px → Encloses w pw → Encloses (axis_over origin size x w) (axis_of origin size px pw)
unfolding axis_over axis_of
axis_in origin size x w px pw some above h k =
    let low = scaled_mono (x.lo +ℤ w.lo) (px +ℤ pw) size some (omega (arith, ints)) in
    let high = scaled_mono (px +ℤ pw) (x.hi +ℤ w.hi) size some (omega (arith, ints)) in
    let q = quotient_in (dividends size x w) (divisors w) ((px +ℤ pw) *ℤ size *ℤ pos 16) (pos 2 *ℤ pw) (omega (arith, ints)) (record { low = low; high = high }) (record { low = omega (arith, ints); high = omega (arith, ints) }) in
    let a = q.low in let b = q.high in
    record {
      low = moved (pos 16 *ℤ origin) (quotient_over (dividends size x w) (divisors w)).lo (floor_quotient ((px +ℤ pw) *ℤ size *ℤ pos 16) (pos 2 *ℤ pw)) a;
      high = moved (pos 16 *ℤ origin) (floor_quotient ((px +ℤ pw) *ℤ size *ℤ pos 16) (pos 2 *ℤ pw)) (quotient_over (dividends size x w) (divisors w)).hi b;
    }
  where
    moved : (o p q : ℤ) → p ≤ℤ q → (o +ℤ p) ≤ℤ (o +ℤ q)
    moved o p q h = omega (arith, ints)

-- where w is one at every place, the ends of the interval have the ends of the window coordinates
pub unit_axis_over_is : (origin size : ℤ) (x w : Interval) → w.lo ≡ pos 65536 → w.hi ≡ pos 65536
    → record { lo = axis_of origin size x.lo (pos 65536); hi = axis_of origin size x.hi (pos 65536) } ≡ axis_over origin size x w
unfolding axis_over axis_of quotient_over
unit_axis_over_is origin size x w h k =
    let n = (x.lo +ℤ pos 65536) *ℤ size *ℤ pos 16 in
    let m = (x.hi +ℤ pos 65536) *ℤ size *ℤ pos 16 in
    rw (h, k) (λ i. record {
      lo = pos 16 *ℤ origin +ℤ sym (either (int_le (pos 0) n) (floor_quotient n (pos 131072))) i;
      hi = pos 16 *ℤ origin +ℤ sym (either (int_le (pos 0) m) (floor_quotient m (pos 131072))) i;
    })
  where
    either : (t : Bool) (q : ℤ) → (if t then q else q) ≡ q
    either true q = refl
    either false q = refl
