-- Tests of signed numbers against 0.
use Rattle.std.proofs.Common.{◌≡◌, ℤ, pos, ◌<ℤ◌, ◌≤ℤ◌, Bool, true, false, refl, arith, int_lt, int_eq}
use Rattle.std.proofs.lemmas.Int.{ints}
use Rattle.std.proofs.lemmas.Bool.Decides.{Decides-int_eq}

pub above_is : (z : ℤ) → pos 0 <ℤ z → int_lt (pos 0) z ≡ true
above_is z h = grind (arith, ints)

pub below_is : (z : ℤ) → z <ℤ pos 0 → int_lt z (pos 0) ≡ true
below_is z h = grind (arith, ints)

pub not_below_is : (z : ℤ) → pos 0 ≤ℤ z → int_lt z (pos 0) ≡ false
not_below_is z h = grind (arith, ints)

-- a number that isn't 0
pub off : (z : ℤ) → (z ≡ pos 0 → ⊥) → int_eq z (pos 0) ≡ false
off z h = by (int_eq z (pos 0)) refl
  where
    by : (t : Bool) → int_eq z (pos 0) ≡ t → t ≡ false
    by true e = absurd (h ((Decides-int_eq z (pos 0)).0 e))
    by false e = refl
