-- Intervals of whole numbers, and what the formulas of drawing make of them.
use Rattle.std.specs.Prelude.{ℕ, ◌+◌, List, [], ◌∷◌, ℤ, pos, ◌+ℤ◌, ◌*ℤ◌, ◌≤ℤ◌, int_le, if◌then◌else◌}
use Rattle.std.specs.Int.{int_min, int_max}
use lib.ListN.{get_or}
use Rattle.rc_base.specs.Numbers.{Within, entry, floor_quotient, fixed_one}
use Rattle.rc_base.specs.declared.interval.Interval.{Interval}

-- the number lies in the interval
pub record Encloses (i : Interval) (z : ℤ) : Type 0 where
  pub low : i.lo ≤ℤ z
  pub high : z ≤ℤ i.hi

-- the interval has a number
abbrev pub IsOrdered : Interval → Type 0
IsOrdered i = i.lo ≤ℤ i.hi

-- both its ends lie from -bound to bound
pub record AreEndsWithin (bound : ℕ) (i : Interval) : Type 0 where
  pub low : Within bound i.lo
  pub high : Within bound i.hi

-- entry c of a list of intervals
abbrev pub interval_at : List Interval → ℕ → Interval
interval_at b c = get_or b c (record { lo = pos 0; hi = pos 0 })

-- what holds of each of the four intervals of a vector
pub record OfEach (P : Interval → Type 0) (b : List Interval) : Type 0 where
  pub first : P (interval_at b 0)
  pub second : P (interval_at b 1)
  pub third : P (interval_at b 2)
  pub fourth : P (interval_at b 3)

-- each of a vector's four entries lies in its interval
pub record EncloseEach (b : List Interval) (v : List ℤ) : Type 0 where
  pub first : Encloses (interval_at b 0) (entry v 0)
  pub second : Encloses (interval_at b 1) (entry v 1)
  pub third : Encloses (interval_at b 2) (entry v 2)
  pub fourth : Encloses (interval_at b 3) (entry v 3)

-- ---- row products

-- the least and the greatest product of a number and one of an interval
abbrev pub least_product : ℤ → Interval → ℤ
least_product k i = int_min (k *ℤ i.lo) (k *ℤ i.hi)

abbrev pub greatest_product : ℤ → Interval → ℤ
greatest_product k i = int_max (k *ℤ i.lo) (k *ℤ i.hi)

-- the least and the greatest sum of products of row r of the matrix and a vector of which each entry lies in an interval
abbrev pub least_sum : List ℤ → ℕ → List Interval → ℤ
least_sum m r b =
    least_product (entry m r) (interval_at b 0) +ℤ least_product (entry m (4 + r)) (interval_at b 1)
    +ℤ least_product (entry m (8 + r)) (interval_at b 2) +ℤ least_product (entry m (12 + r)) (interval_at b 3)

abbrev pub greatest_sum : List ℤ → ℕ → List Interval → ℤ
greatest_sum m r b =
    greatest_product (entry m r) (interval_at b 0) +ℤ greatest_product (entry m (4 + r)) (interval_at b 1)
    +ℤ greatest_product (entry m (8 + r)) (interval_at b 2) +ℤ greatest_product (entry m (12 + r)) (interval_at b 3)

-- row r of the matrix times a vector of intervals
unfoldable pub row_over : List ℤ → ℕ → List Interval → Interval
row_over m r b = record { lo = floor_quotient (least_sum m r b) (pos fixed_one); hi = floor_quotient (greatest_sum m r b) (pos fixed_one) }

-- the product of a matrix and a vector of intervals
unfoldable pub transformed_over : List ℤ → List Interval → List Interval
transformed_over m b = row_over m 0 b ∷ row_over m 1 b ∷ row_over m 2 b ∷ row_over m 3 b ∷ []

-- ---- quotients

-- the quotients, rounded down, of the numbers of one interval by those of another, which lie above 0
unfoldable pub quotient_over : Interval → Interval → Interval
quotient_over n d = record {
  lo = if int_le (pos 0) n.lo then floor_quotient n.lo d.hi else floor_quotient n.lo d.lo;
  hi = if int_le (pos 0) n.hi then floor_quotient n.hi d.lo else floor_quotient n.hi d.hi;
}
