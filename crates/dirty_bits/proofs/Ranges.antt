-- Tests of the numbers of a range.
use Rattle.std.proofs.Common.{◌≡◌, ℕ, zero, suc, ◌+◌, ◌-◌, ◌<◌, ◌≤◌, ◌||◌, Bool, true, false, List, [], ◌∷◌, ◌++◌, inl, inr, refl, sym, ap, ap₂, ◌∙◌, arith, eq-eqb, ne_eqb}
use Rattle.std.specs.Prelude.{nat_eq, nat_lt, sum}
use Rattle.std.specs.List.{range_with_len, list_any}
use Rattle.std.proofs.lemmas.Bool.{cases_lt, le-ltb, lt-ltb, or_parts, or_cases, or_left, or_right}
use Rattle.std.proofs.lemmas.List.Sums.{sum_by-cons}
use Rattle.std.proofs.lemmas.List.Folds.{list_any-append}
use Rattle.plain_lemmas.proofs.Ranges.{any_in_range}

-- a range is one of its first numbers, and one of the others
pub range_split : (a n m : ℕ) → range_with_len a (n + m) ≡ range_with_len a n ++ range_with_len (a + n) m
range_split a zero m =
    let e : zero + m ≡ m = omega arith in
    let f : a ≡ a + zero = omega arith in
    ap (range_with_len a) e ∙ ap (λ k. range_with_len k m) f
range_split a (suc n) m =
    let e : suc n + m ≡ suc (n + m) = omega arith in
    let f : (a + 1) + n ≡ a + suc n = omega arith in
    ap (range_with_len a) e ∙ ap (λ (l : List ℕ). a ∷ l) (range_split (a + 1) n m ∙ ap (λ k. range_with_len (a + 1) n ++ range_with_len k m) f)

pub any_split : (f : ℕ → Bool) (a n m : ℕ) → list_any f (range_with_len a (n + m)) ≡ (list_any f (range_with_len a n) || list_any f (range_with_len (a + n) m))
any_split f a n m = ap (list_any f) (range_split a n m) ∙ list_any-append f (range_with_len a n) (range_with_len (a + n) m)

-- where none passes, each fails
pub none_at : (f : ℕ → Bool) (a n k : ℕ) → list_any f (range_with_len a n) ≡ false → a ≤ k → k < a + n → f k ≡ false
none_at f a zero k none low high = absurd (omega (arith, low, high))
none_at f a (suc n) k none low high =
    let both = or_parts (f a) (list_any f (range_with_len (a + 1) n)) none in
    elim (cases_lt a k) [
      | inl less ↦ none_at f (a + 1) n k both.1 (omega (arith, less)) (omega (arith, high))
      | inr more ↦ (let e : k ≡ a = omega (arith, low, more) in ap f e ∙ both.0)
    ]

-- where each fails, none passes
pub none_any : (f : ℕ → Bool) (a n : ℕ) → ((k : ℕ) → a ≤ k → k < a + n → f k ≡ false) → list_any f (range_with_len a n) ≡ false
none_any f a zero none = refl
none_any f a (suc n) none =
    ap₂ (λ (x y : Bool). x || y) (none a (omega arith) (omega arith))
    (none_any f (a + 1) n (λ k low high. none k (omega (arith, low)) (omega (arith, high))))

-- where the second passes only numbers that the first passes
pub fewer_any : (f g : ℕ → Bool) (a n : ℕ) → ((k : ℕ) → g k ≡ true → f k ≡ true) → list_any g (range_with_len a n) ≡ true → list_any f (range_with_len a n) ≡ true
fewer_any f g a zero fewer some = some
fewer_any f g a (suc n) fewer some = elim (or_cases (g a) (list_any g (range_with_len (a + 1) n)) some) [
  | inl here ↦ or_left (f a) (list_any f (range_with_len (a + 1) n)) (fewer a here)
  | inr later ↦ or_right (f a) (list_any f (range_with_len (a + 1) n)) (fewer_any f g (a + 1) n fewer later)
]

-- one number more of which none passed
pub none_yet : (f : ℕ → Bool) (a i : ℕ) → a ≤ i → list_any f (range_with_len a (i - a)) ≡ false → f i ≡ false → list_any f (range_with_len a (i + 1 - a)) ≡ false
none_yet f a i low none here =
    let n : i + 1 - a ≡ (i - a) + 1 = omega (arith, low) in
    let e : a + (i - a) ≡ i = omega (arith, low) in
    ap (λ k. list_any f (range_with_len a k)) n
    ∙ any_split f a (i - a) 1
    ∙ ap₂ (λ (x y : Bool). x || (y || false)) none (ap f e ∙ here)

-- the parts of a range, one after the other
abbrev pub any_in : (ℕ → Bool) → ℕ → List ℕ → Bool
any_in f a [] = false
any_in f a (n ∷ ns) = list_any f (range_with_len a n) || any_in f (a + n) ns

pub parts_together : (f : ℕ → Bool) (a : ℕ) (ns : List ℕ) → any_in f a ns ≡ list_any f (range_with_len a (sum ns))
parts_together f a [] = refl
parts_together f a (n ∷ ns) =
    ap (λ b. list_any f (range_with_len a n) || b) (parts_together f (a + n) ns)
    ∙ sym (any_split f a n (sum ns))
    ∙ ap (λ k. list_any f (range_with_len a k)) (sym (sum_by-cons (λ x. x) n ns))

-- a number is one of the first ones
pub any_number : (e n : ℕ) → list_any (nat_eq e) (range_with_len 0 n) ≡ nat_lt e n
any_number e n = elim (cases_lt e n) [
  | inl less ↦ any_in_range (nat_eq e) 0 n e (omega arith) (omega (arith, less)) (eq-eqb e e refl) ∙ sym (lt-ltb e n less)
  | inr more ↦ none_any (nat_eq e) 0 n (λ k from to. ne_eqb e k (λ same. omega (arith, same, to, more))) ∙ sym (le-ltb e n more)
]
