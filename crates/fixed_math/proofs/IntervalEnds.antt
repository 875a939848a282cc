-- Products and quotients of numbers that lie in intervals.
use Rattle.std.proofs.Common.{◌≡◌, ℕ, ◌+◌, ℤ, pos, ◌+ℤ◌, ◌*ℤ◌, ◌≤ℤ◌, ◌<ℤ◌, List, Bool, true, false, arith}
use Rattle.std.specs.Prelude.{int_le, if◌then◌else◌}
use Rattle.std.specs.Int.{int_min, int_max}
use Rattle.std.proofs.lemmas.Int.{ints, by_lt_z, int_min_is, int_max_is}
use lib.IntN.{*ℤ_comm}
use Rattle.rc_base.specs.Numbers.{Within, entry, floor_quotient, fixed_one, row_product}
use Rattle.fixed_math.proofs.Signed.{mul_mono, mul_anti, floor_at_most, floor_from_low, floor_to_high, floor_within}
use Rattle.rc_base.specs.Intervals.{Encloses, IsOrdered, AreEndsWithin, EncloseEach, OfEach, interval_at, least_product, greatest_product, row_over, quotient_over}
use Rattle.rc_base.specs.declared.interval.Interval.{Interval}

-- ---- products

-- a number times one of an interval lies between its products with the ends
pub product_in : (k lo hi z : ℤ) → lo ≤ℤ z → z ≤ℤ hi → (int_min (k *ℤ lo) (k *ℤ hi) ≤ℤ (k *ℤ z)) × ((k *ℤ z) ≤ℤ int_max (k *ℤ lo) (k *ℤ hi))
product_in k lo hi z h g =
    by_lt_z k (pos 0)
    (λ l.
    let n : k ≤ℤ pos 0 = omega (arith, ints) in
    let a = mul_anti k lo z n h in
    let b = mul_anti k z hi n g in
    (omega (arith, ints, a, b, int_min_is (k *ℤ lo) (k *ℤ hi)), omega (arith, ints, a, b, int_max_is (k *ℤ lo) (k *ℤ hi))))
    (λ n.
    let a = mul_mono k lo z n h in
    let b = mul_mono k z hi n g in
    (omega (arith, ints, a, b, int_min_is (k *ℤ lo) (k *ℤ hi)), omega (arith, ints, a, b, int_max_is (k *ℤ lo) (k *ℤ hi))))

pub min_within : (a b : ℤ) (n : ℕ) → Within n a → Within n b → Within n (int_min a b)
min_within a b n h g = let p = h.0 in let q = h.1 in let r = g.0 in let s = g.1 in let m = int_min_is a b in (omega (arith, ints), omega (arith, ints))

pub max_within : (a b : ℤ) (n : ℕ) → Within n a → Within n b → Within n (int_max a b)
max_within a b n h g = let p = h.0 in let q = h.1 in let r = g.0 in let s = g.1 in let m = int_max_is a b in (omega (arith, ints), omega (arith, ints))

-- the quotient rounded down keeps an order
pub floor_mono : (a b d : ℤ) → pos 0 <ℤ d → a ≤ℤ b → floor_quotient a d ≤ℤ floor_quotient b d
floor_mono a b d h k =
    let f = floor_at_most a d h in
    let c = *ℤ_comm d (floor_quotient a d) in
    let l : (d *ℤ floor_quotient a d) ≤ℤ b = omega (arith, ints, f, c, k) in
    floor_from_low b d (floor_quotient a d) h l

sum_mono : (a b c d e f g h : ℤ) → a ≤ℤ e → b ≤ℤ f → c ≤ℤ g → d ≤ℤ h → (a +ℤ b +ℤ c +ℤ d) ≤ℤ (e +ℤ f +ℤ g +ℤ h)
sum_mono a b c d e f g h p q r s = omega (arith, ints)

one_above : pos 0 <ℤ pos fixed_one
one_above = omega (arith, ints)

-- a row of the matrix times a vector whose entries lie in the intervals
pub row_in : (m : List ℤ) (r : ℕ) (b : List Interval) (v : List ℤ) → EncloseEach b v → Encloses (row_over m r b) (row_product m v r)
unfolding row_over
row_in m r b v h =
    let p = product_in (entry m r) (interval_at b 0).lo (interval_at b 0).hi (entry v 0) h.first.low h.first.high in
    let q = product_in (entry m (4 + r)) (interval_at b 1).lo (interval_at b 1).hi (entry v 1) h.second.low h.second.high in
    let s = product_in (entry m (8 + r)) (interval_at b 2).lo (interval_at b 2).hi (entry v 2) h.third.low h.third.high in
    let t = product_in (entry m (12 + r)) (interval_at b 3).lo (interval_at b 3).hi (entry v 3) h.fourth.low h.fourth.high in
    record {
      low = floor_mono _ _ (pos fixed_one) one_above (sum_mono _ _ _ _ _ _ _ _ p.0 q.0 s.0 t.0);
      high = floor_mono _ _ (pos fixed_one) one_above (sum_mono _ _ _ _ _ _ _ _ p.1 q.1 s.1 t.1);
    }

ends_ordered : (k : ℤ) (i : Interval) → IsOrdered i → least_product k i ≤ℤ greatest_product k i
ends_ordered k i h =
    let p = product_in k i.lo i.hi i.lo (omega (arith, ints)) h in
    let a = p.0 in let b = p.1 in omega (arith, ints, a, b)

pub row_ordered : (m : List ℤ) (r : ℕ) (b : List Interval) → OfEach IsOrdered b → IsOrdered (row_over m r b)
unfolding row_over
row_ordered m r b h =
    floor_mono _ _ (pos fixed_one) one_above
    (sum_mono _ _ _ _ _ _ _ _ (ends_ordered (entry m r) (interval_at b 0) h.first) (ends_ordered (entry m (4 + r)) (interval_at b 1) h.second)
    (ends_ordered (entry m (8 + r)) (interval_at b 2) h.third) (ends_ordered (entry m (12 + r)) (interval_at b 3) h.fourth))

-- ---- quotients

quotient_low : (n lo hi x y : ℤ) → pos 0 <ℤ lo → lo ≤ℤ y → y ≤ℤ hi → n ≤ℤ x
    → (if int_le (pos 0) n then floor_quotient n hi else floor_quotient n lo) ≤ℤ floor_quotient x y
quotient_low n lo hi x y p l u h =
    let above : pos 0 <ℤ y = omega (arith, ints) in
    let high : pos 0 <ℤ hi = omega (arith, ints) in
    by_lt_z n (pos 0)
    (λ neg.
    let q = floor_quotient n lo in
    let none : int_le (pos 0) n ≡ false = grind (arith, ints) in
    let z : lo *ℤ pos 0 ≡ pos 0 = omega (arith, ints) in
    let q0 : q ≤ℤ pos 0 = floor_to_high n lo (pos 0) p (omega (arith, ints, z, neg)) in
    let a = mul_anti q lo y q0 l in
    let f = floor_at_most n lo p in
    let c = *ℤ_comm y q in
    let e : (y *ℤ q) ≤ℤ x = omega (arith, ints, a, f, c, h) in
    rw none (floor_from_low x y q above e))
    (λ some.
    let q = floor_quotient n hi in
    let yes' : int_le (pos 0) n ≡ true = grind (arith, ints) in
    let z : hi *ℤ pos 0 ≡ pos 0 = omega (arith, ints) in
    let q0 : pos 0 ≤ℤ q = floor_from_low n hi (pos 0) high (omega (arith, ints, z, some)) in
    let a = mul_mono q y hi q0 u in
    let f = floor_at_most n hi high in
    let c = *ℤ_comm y q in
    let e : (y *ℤ q) ≤ℤ x = omega (arith, ints, a, f, c, h) in
    rw yes' (floor_from_low x y q above e))

quotient_high : (n lo hi x y : ℤ) → pos 0 <ℤ lo → lo ≤ℤ y → y ≤ℤ hi → x ≤ℤ n
    → floor_quotient x y ≤ℤ (if int_le (pos 0) n then floor_quotient n lo else floor_quotient n hi)
quotient_high n lo hi x y p l u h =
    let above : pos 0 <ℤ y = omega (arith, ints) in
    let high : pos 0 <ℤ hi = omega (arith, ints) in
    let q = floor_quotient x y in
    let f = floor_at_most x y above in
    by_lt_z n (pos 0)
    (λ neg.
    let none : int_le (pos 0) n ≡ false = grind (arith, ints) in
    let z : y *ℤ pos 0 ≡ pos 0 = omega (arith, ints) in
    let q0 : q ≤ℤ pos 0 = floor_to_high x y (pos 0) above (omega (arith, ints, z, neg, h)) in
    let a = mul_anti q y hi q0 u in
    let c = *ℤ_comm hi q in
    let e : (hi *ℤ q) ≤ℤ n = omega (arith, ints, a, f, c, h) in
    rw none (floor_from_low n hi q high e))
    (λ some.
    let yes' : int_le (pos 0) n ≡ true = grind (arith, ints) in
    let z : lo *ℤ pos 0 ≡ pos 0 = omega (arith, ints) in
    rw yes'
    (by_lt_z q (pos 0)
    (λ below.
    let n0 : pos 0 ≤ℤ floor_quotient n lo = floor_from_low n lo (pos 0) p (omega (arith, ints, z, some)) in
    omega (arith, ints, n0, below))
    (λ q0.
    let a = mul_mono q lo y q0 l in
    let c = *ℤ_comm lo q in
    let e : (lo *ℤ q) ≤ℤ n = omega (arith, ints, a, f, c, h) in
    floor_from_low n lo q p e)))

pub quotient_in : (n d : Interval) (x y : ℤ) → pos 0 <ℤ d.lo → Encloses n x → Encloses d y → Encloses (quotient_over n d) (floor_quotient x y)
unfolding quotient_over
quotient_in n d x y p h k = record {
  low = quotient_low n.lo d.lo d.hi x y p k.low k.high h.low;
  high = quotient_high n.hi d.lo d.hi x y p k.low k.high h.high;
}

pub quotient_ordered : (n d : Interval) → pos 0 <ℤ d.lo → IsOrdered n → IsOrdered d → IsOrdered (quotient_over n d)
quotient_ordered n d p h k =
    let i = quotient_in n d n.lo d.lo p (record { low = omega (arith, ints); high = h }) (record { low = omega (arith, ints); high = k }) in
    let a = i.low in let b = i.high in omega (arith, ints, a, b)

pub quotient_small : (n d : Interval) (b : ℕ) → pos 0 <ℤ d.lo → pos 0 <ℤ d.hi → AreEndsWithin b n → AreEndsWithin b (quotient_over n d)
unfolding quotient_over
quotient_small n d b p q h = record { low = chosen n.lo d.hi d.lo b q p h.low; high = chosen n.hi d.lo d.hi b p q h.high }
  where
    chosen : (z above below : ℤ) (m : ℕ) → pos 0 <ℤ above → pos 0 <ℤ below → Within m z → Within m (if int_le (pos 0) z then floor_quotient z above else floor_quotient z below)
    chosen z above below m j k w = by (int_le (pos 0) z)
      where
        by : (t : Bool) → Within m (if t then floor_quotient z above else floor_quotient z below)
        by true = floor_within z above m j w
        by false = floor_within z below m k w
