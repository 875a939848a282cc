-- The identity moves no interval.
use Rattle.std.proofs.Common.{◌≡◌, ℕ, ◌*◌, ◌^◌, ℤ, pos, ◌+ℤ◌, ◌*ℤ◌, List, [], ◌∷◌, arith, sym}
use Rattle.std.proofs.lemmas.Int.{ints, int_min_is, int_max_is}
use Rattle.rc_base.specs.Numbers.{floor_quotient, fixed_one}
use Rattle.rc_base.specs.Intervals.{IsOrdered, AreEndsWithin, OfEach, interval_at, least_product, greatest_product, row_over, transformed_over}
use Rattle.rc_base.specs.Contexts.Context.{identity}
use Rattle.rc_base.specs.declared.interval.Interval.{Interval}
use Rattle.fixed_math.proofs.Signed.{within_more}
use Rattle.geometry.proofs.Identity.{floor_whole}

least_one : (i : Interval) → IsOrdered i → least_product (pos 65536) i ≡ pos 65536 *ℤ i.lo
least_one i h = let m = int_min_is (pos 65536 *ℤ i.lo) (pos 65536 *ℤ i.hi) in omega (arith, ints)

greatest_one : (i : Interval) → IsOrdered i → greatest_product (pos 65536) i ≡ pos 65536 *ℤ i.hi
greatest_one i h = let m = int_max_is (pos 65536 *ℤ i.lo) (pos 65536 *ℤ i.hi) in omega (arith, ints)

least_none : (i : Interval) → least_product (pos 0) i ≡ pos 0
least_none i = let m = int_min_is (pos 0 *ℤ i.lo) (pos 0 *ℤ i.hi) in omega (arith, ints)

greatest_none : (i : Interval) → greatest_product (pos 0) i ≡ pos 0
greatest_none i = let m = int_max_is (pos 0 *ℤ i.lo) (pos 0 *ℤ i.hi) in omega (arith, ints)

-- the least and the greatest sum of a row with one entry
alone : (a b c d lo : ℤ) → a ≡ pos 65536 *ℤ lo → b ≡ pos 0 → c ≡ pos 0 → d ≡ pos 0
    → (floor_quotient (a +ℤ b +ℤ c +ℤ d) (pos fixed_one) ≡ lo) × (floor_quotient (b +ℤ a +ℤ c +ℤ d) (pos fixed_one) ≡ lo)
    × (floor_quotient (b +ℤ c +ℤ a +ℤ d) (pos fixed_one) ≡ lo) × (floor_quotient (b +ℤ c +ℤ d +ℤ a) (pos fixed_one) ≡ lo)
alone a b c d lo e f g h = (
  floor_whole (a +ℤ b +ℤ c +ℤ d) lo (omega (arith, ints, e, f, g, h)),
  floor_whole (b +ℤ a +ℤ c +ℤ d) lo (omega (arith, ints, e, f, g, h)),
  floor_whole (b +ℤ c +ℤ a +ℤ d) lo (omega (arith, ints, e, f, g, h)),
  floor_whole (b +ℤ c +ℤ d +ℤ a) lo (omega (arith, ints, e, f, g, h)),
)

pub unmoved : (b : List Interval) → OfEach IsOrdered b → (interval_at b 0 ∷ interval_at b 1 ∷ interval_at b 2 ∷ interval_at b 3 ∷ []) ≡ transformed_over identity.m b
unfolding transformed_over row_over
unmoved b h =
    let w = interval_at b 0 in let x = interval_at b 1 in let y = interval_at b 2 in let z = interval_at b 3 in
    let one = pos 65536 in let none = pos 0 in
    let lw = (alone (least_product one w) (least_product none x) (least_product none y) (least_product none z) w.lo (least_one w h.first) (least_none x) (least_none y) (least_none z)).0 in
    let gw = (alone (greatest_product one w) (greatest_product none x) (greatest_product none y) (greatest_product none z) w.hi (greatest_one w h.first) (greatest_none x) (greatest_none y) (greatest_none z)).0 in
    let lx = (alone (least_product one x) (least_product none w) (least_product none y) (least_product none z) x.lo (least_one x h.second) (least_none w) (least_none y) (least_none z)).1 in
    let gx = (alone (greatest_product one x) (greatest_product none w) (greatest_product none y) (greatest_product none z) x.hi (greatest_one x h.second) (greatest_none w) (greatest_none y) (greatest_none z)).1 in
    let ly = (alone (least_product one y) (least_product none w) (least_product none x) (least_product none z) y.lo (least_one y h.third) (least_none w) (least_none x) (least_none z)).2 in
    let gy = (alone (greatest_product one y) (greatest_product none w) (greatest_product none x) (greatest_product none z) y.hi (greatest_one y h.third) (greatest_none w) (greatest_none x) (greatest_none z)).2 in
    let lz = (alone (least_product one z) (least_product none w) (least_product none x) (least_product none y) z.lo (least_one z h.fourth) (least_none w) (least_none x) (least_none y)).3 in
    let gz = (alone (greatest_product one z) (greatest_product none w) (greatest_product none x) (greatest_product none y) z.hi (greatest_one z h.fourth) (greatest_none w) (greatest_none x) (greatest_none y)).3 in
    λ i. record { lo = sym lw i; hi = sym gw i } ∷ record { lo = sym lx i; hi = sym gx i } ∷ record { lo = sym ly i; hi = sym gy i } ∷ record { lo = sym lz i; hi = sym gz i } ∷ []

-- a bound of the ends is a greater one
pub wider_ends : (b : List Interval) (n : ℕ) → OfEach (AreEndsWithin n) b → OfEach (AreEndsWithin (2 ^ 17 * n)) (interval_at b 0 ∷ interval_at b 1 ∷ interval_at b 2 ∷ interval_at b 3 ∷ [])
wider_ends b n h = record { first = wider (interval_at b 0) h.first; second = wider (interval_at b 1) h.second; third = wider (interval_at b 2) h.third; fourth = wider (interval_at b 3) h.fourth }
  where
    wider : (i : Interval) → AreEndsWithin n i → AreEndsWithin (2 ^ 17 * n) i
    wider i k = record { low = within_more i.lo n (2 ^ 17 * n) (omega arith) k.low; high = within_more i.hi n (2 ^ 17 * n) (omega arith) k.high }
