-- Numbers in sequence: one more of them, and whether some of them pass a test.
use Rattle.std.proofs.Common.{◌≡◌, ℕ, zero, suc, ◌+◌, List, [], ◌∷◌, ◌++◌, refl, ap, ◌∙◌, arith, ◌-◌, ◌<◌, ◌≤◌, Bool, true, inl, inr}
use Rattle.std.proofs.lemmas.List.Folds.{list_any_at}
use Rattle.std.proofs.lemmas.List.FromFn.{get_or-range_with_len, length-range_with_len}
use Rattle.std.specs.List.{range_with_len, list_any}
use Rattle.std.specs.Prelude.{◌||◌}
use Rattle.std.proofs.lemmas.Bool.{or_cases}

pub range_more : (a n : ℕ) → range_with_len a (n + 1) ≡ range_with_len a n ++ (a + n) ∷ []
range_more a zero = let e : a + 0 ≡ a = omega arith in rw e refl
range_more a (suc n) =
    let e : (a + 1) + n ≡ a + suc n = omega arith in
    let k : suc n + 1 ≡ suc (n + 1) = omega arith in
    rw k (ap (λ (l : List ℕ). a ∷ l) (range_more (a + 1) n ∙ ap (λ (k : ℕ). range_with_len (a + 1) n ++ k ∷ []) e))

pub any_in_range : (f : ℕ → Bool) (a n k : ℕ) → a ≤ k → k < a + n → f k ≡ true → list_any f (range_with_len a n) ≡ true
any_in_range f a n k low high e =
    let within : k - a < n = omega (arith, low, high) in
    let here : a + (k - a) ≡ k = omega (arith, low) in
    list_any_at f (range_with_len a n) (k - a) 0 (omega (arith, within, length-range_with_len a n))
    (ap f (get_or-range_with_len a n (k - a) 0 within ∙ here) ∙ e)

-- two tests that agree on the numbers of a range
pub any_same_in_range : (f g : ℕ → Bool) (a n : ℕ) → ((k : ℕ) → a ≤ k → k < a + n → f k ≡ g k) → list_any f (range_with_len a n) ≡ list_any g (range_with_len a n)
any_same_in_range f g a zero h = refl
any_same_in_range f g a (suc n) h =
    let here : f a ≡ g a = h a (omega arith) (omega arith) in
    let more = any_same_in_range f g (a + 1) n (λ k low high. h k (omega (arith, low)) (omega (arith, high))) in
    (λ i. here i || more i)

-- where some number of a range passes, here is one
pub found_in_range : (f : ℕ → Bool) (a n : ℕ) → list_any f (range_with_len a n) ≡ true → (k : ℕ) × (a ≤ k) × (k < a + n) × (f k ≡ true)
found_in_range f a zero h = absurd cc
found_in_range f a (suc n) h =
    elim (or_cases (f a) (list_any f (range_with_len (a + 1) n)) h) [
      | inl here ↦ (a, omega arith, omega arith, here)
      | inr later ↦
          let k = found_in_range f (a + 1) n later in
          (k.0, (let l = k.1 in omega (arith, l)), (let m = k.2 in omega (arith, m)), k.3)
    ]
