-- Tests of numbers against bounds, and numbers that are one.
use Rattle.std.proofs.Common.{◌≡◌, ℤ, ◌≤ℤ◌, true, arith, ◌<ℤ◌, false, ℕ, ◌<◌, inl, inr, ◌==◌, refl, eq-eqb, zero, suc, ◌*◌, ◌+◌, subst, sym, eqb-true, ◌≢◌, true≢false, ◌∙◌}
use Rattle.std.proofs.Math.Nat.{zero-mul}
use Rattle.std.proofs.lemmas.Bool.{cases_Bool}
use Rattle.std.proofs.lemmas.Int.{ints}
use Rattle.std.proofs.lemmas.Str.Parse.{IsNumeralModel, numerals_by_value, tells_all_ascii_digits}
use Rattle.std.specs.Prelude.{int_le, int_lt, min}
use Rattle.std.specs.Str.{all_ascii_digits}
use Rattle.std.specs.Str.Parse.{digits_value}

pub int_le_true : (a b : ℤ) → a ≤ℤ b → int_le a b ≡ true
int_le_true a b h = grind (arith, ints)

pub from_int_le : (a b : ℤ) → int_le a b ≡ true → a ≤ℤ b
from_int_le a b h = grind (arith, ints)

pub int_le_false : (a b : ℤ) → b <ℤ a → int_le a b ≡ false
int_le_false a b h = grind (arith, ints)

pub from_int_le_false : (a b : ℤ) → int_le a b ≡ false → b <ℤ a
from_int_le_false a b h = grind (arith, ints)

pub int_lt_true : (a b : ℤ) → a <ℤ b → int_lt a b ≡ true
int_lt_true a b h = grind (arith, ints)

pub from_int_lt : (a b : ℤ) → int_lt a b ≡ true → a <ℤ b
from_int_lt a b h = grind (arith, ints)

pub int_lt_false : (a b : ℤ) → b ≤ℤ a → int_lt a b ≡ false
int_lt_false a b h = grind (arith, ints)

pub from_int_lt_false : (a b : ℤ) → int_lt a b ≡ false → b ≤ℤ a
from_int_lt_false a b h = grind (arith, ints)

pub equal_to_itself : (c : ℕ) → (c == c) ≡ true
equal_to_itself c = eq-eqb c c refl

pub same_from_both_bounds : (a b : ℤ) → a ≤ℤ b → b ≤ℤ a → a ≡ b
same_from_both_bounds a b h k = omega (arith, ints)

-- a product above some number has a first factor
pub factor_above_zero : (a b t : ℕ) → t < a * b → 0 < a
factor_above_zero zero b t low = absurd (omega (arith, zero-mul b))
factor_above_zero (suc a) b t low = omega arith

pub min_of_min : (a b m : ℕ) → min (min a m + b) m ≡ min (a + b) m
min_of_min a b m = omega arith

-- digits of ten: the numerals are those that a value gives
pub decimal_numerals : IsNumeralModel (λ ds. all_ascii_digits ds ≡ true) (digits_value 10)
decimal_numerals = numerals_by_value _ tells_all_ascii_digits

-- what holds of one number and of all others holds of each
pub at_one : (Q : ℕ → Type 0) (c : ℕ) → Q c → ((k : ℕ) → (k == c) ≡ false → Q k) → (k : ℕ) → Q k
at_one Q c here others k = elim (cases_Bool (k == c)) [ inl t ↦ subst Q (sym (eqb-true k c t)) here | inr f ↦ others k f ]

pub at_one_or_other : (Q : ℕ → Type 0) (c : ℕ) → Q c → ((k : ℕ) → k ≢ c → Q k) → (k : ℕ) → Q k
at_one_or_other Q c here others k = at_one Q c here (λ j f. others j (λ e. true≢false (sym (eq-eqb j c e) ∙ f))) k
