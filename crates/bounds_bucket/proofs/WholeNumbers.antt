-- Tests of whole numbers against bounds.
use Rattle.std.proofs.Common.{◌≡◌, ℤ, Bool, true, false, ◌&&◌, refl, arith, inl, inr}
use Rattle.std.specs.Prelude.{◌||◌, int_le, int_lt}
use Rattle.std.specs.Int.{int_min, int_max}
use Rattle.std.proofs.lemmas.Int.{ints, int_min_is, int_max_is}
use Rattle.std.proofs.lemmas.Bool.{cases_Bool, and_parts}
use Rattle.plain_lemmas.proofs.Booleans.{same_test}
use Rattle.plain_lemmas.proofs.Numbers.{int_le_true, from_int_le, from_int_le_false, int_lt_true, from_int_lt}

pub max_le : (a b p : ℤ) → int_le (int_max a b) p ≡ (int_le a p && int_le b p)
max_le a b p =
    same_test (int_le (int_max a b) p) (int_le a p && int_le b p)
    (λ h. let e = from_int_le (int_max a b) p h in let k = int_max_is a b in
    rw (int_le_true a p (omega (arith, ints, e, k)), int_le_true b p (omega (arith, ints, e, k))) refl)
    (λ h.
    let t = and_parts (int_le a p) (int_le b p) h in
    let x = from_int_le a p t.0 in let y = from_int_le b p t.1 in let k = int_max_is a b in
    int_le_true (int_max a b) p (omega (arith, ints, x, y, k)))

pub lt_min : (a b p : ℤ) → int_lt p (int_min a b) ≡ (int_lt p a && int_lt p b)
lt_min a b p =
    same_test (int_lt p (int_min a b)) (int_lt p a && int_lt p b)
    (λ h. let e = from_int_lt p (int_min a b) h in let k = int_min_is a b in
    rw (int_lt_true p a (omega (arith, ints, e, k)), int_lt_true p b (omega (arith, ints, e, k))) refl)
    (λ h.
    let t = and_parts (int_lt p a) (int_lt p b) h in
    let x = from_int_lt p a t.0 in let y = from_int_lt p b t.1 in let k = int_min_is a b in
    int_lt_true p (int_min a b) (omega (arith, ints, x, y, k)))

pub min_le : (a b p : ℤ) → int_le (int_min a b) p ≡ (int_le a p || int_le b p)
min_le a b p =
    elim (cases_Bool (int_le a p)) [
      | inl t ↦ let x = from_int_le a p t in let k = int_min_is a b in rw t (int_le_true (int_min a b) p (omega (arith, ints, x, k)))
      | inr f ↦ rw f (same_test (int_le (int_min a b) p) (int_le b p)
          (λ h. let e = from_int_le (int_min a b) p h in let n = from_int_le_false a p f in let k = int_min_is a b in int_le_true b p (omega (arith, ints, e, n, k)))
          (λ h. let e = from_int_le b p h in let k = int_min_is a b in int_le_true (int_min a b) p (omega (arith, ints, e, k))))
    ]

pub le_max : (a b p : ℤ) → int_le p (int_max a b) ≡ (int_le p a || int_le p b)
le_max a b p =
    elim (cases_Bool (int_le p a)) [
      | inl t ↦ let x = from_int_le p a t in let k = int_max_is a b in rw t (int_le_true p (int_max a b) (omega (arith, ints, x, k)))
      | inr f ↦ rw f (same_test (int_le p (int_max a b)) (int_le p b)
          (λ h. let e = from_int_le p (int_max a b) h in let n = from_int_le_false p a f in let k = int_max_is a b in int_le_true p b (omega (arith, ints, e, n, k)))
          (λ h. let e = from_int_le p b h in let k = int_max_is a b in int_le_true p (int_max a b) (omega (arith, ints, e, k))))
    ]

-- ---- tests joined

pub or_thrice : (a b c : Bool) → ((a || b) || c) ≡ (a || (b || (c || false)))
or_thrice true b c = refl
or_thrice false true c = refl
or_thrice false false true = refl
or_thrice false false false = refl

pub or_same : (a b : Bool) → (a || (a || (b || false))) ≡ (a || b)
or_same true b = refl
or_same false true = refl
or_same false false = refl

pub and_crossed : (a b c d : Bool) → ((a && b) && (c && d)) ≡ ((a && c) && (b && d))
and_crossed true b true d = refl
and_crossed true true false d = refl
and_crossed true false false d = refl
and_crossed false b c d = refl

pub and_last : (a b c d : Bool) → (((a && b) && c) && d) ≡ (a && (b && (c && d)))
and_last true true c d = refl
and_last true false c d = refl
and_last false b c d = refl
