-- Elements in turn.
use Rattle.std.proofs.Common.{◌≡◌, ℕ, zero, suc, ◌+◌, ◌-◌, append_assoc, ◌<◌, ◌≤◌, List, [], ◌++◌, refl, ap, sym, ◌∙◌, arith, inl, inr, subst}
use Rattle.std.proofs.lemmas.Bool.{cases_lt}
use Rattle.std.specs.List.{flat_map, range_with_len}
use Rattle.std.specs.Prelude.{◌≢◌}
use Rattle.std.proofs.lemmas.Grind.{flat_map-append}
use Rattle.std.proofs.lemmas.List.{append-nil}
use Rattle.dirty_bits.proofs.Ranges.{range_split}
use Rattle.plain_lemmas.proofs.Lists.{both_empty}

-- a range is its first numbers and then the others
pub range_more_than : {A : Type 0} (f : ℕ → List A) (a n m : ℕ) → flat_map f (range_with_len a (n + m)) ≡ flat_map f (range_with_len a n) ++ flat_map f (range_with_len (a + n) m)
range_more_than f a n m = ap (flat_map f) (range_split a n m) ∙ flat_map-append f (range_with_len a n) (range_with_len (a + n) m)

-- what the first elements give and what the next one gives are what one element more gives
pub added : {A : Type 0} (f : ℕ → List A) (old : List A) (a k : ℕ) → a ≤ k
    → (old ++ flat_map f (range_with_len a (k - a))) ++ f k ≡ old ++ flat_map f (range_with_len a (k + 1 - a))
added f old a k low =
    let n : k + 1 - a ≡ (k - a) + 1 = omega (arith, low) in
    let e : a + (k - a) ≡ k = omega (arith, low) in
    append_assoc old (flat_map f (range_with_len a (k - a))) (f k)
    ∙ ap (λ l. old ++ l) (sym (
    ap (λ m. flat_map f (range_with_len a m)) n ∙ range_more_than f a (k - a) 1
    ∙ ap (λ j. flat_map f (range_with_len a (k - a)) ++ (f j ++ [])) e ∙ ap (λ l. flat_map f (range_with_len a (k - a)) ++ l) (append-nil (f k))))

-- two functions that agree on a range give the same
pub same_in_turn : {A : Type 0} (f g : ℕ → List A) (a n : ℕ) → ((k : ℕ) → a ≤ k → k < a + n → f k ≡ g k)
    → flat_map f (range_with_len a n) ≡ flat_map g (range_with_len a n)
same_in_turn f g a zero h = refl
same_in_turn f g a (suc n) h =
    ap (λ l. l ++ flat_map f (range_with_len (a + 1) n)) (h a (omega arith) (omega arith))
    ∙ ap (λ l. g a ++ l) (same_in_turn f g (a + 1) n (λ k from to. h k (omega (arith, from)) (omega (arith, to))))

-- where each gives nothing, so do all
pub nothing_of : {A : Type 0} (f : ℕ → List A) (a n : ℕ) → ((k : ℕ) → a ≤ k → k < a + n → f k ≡ []) → flat_map f (range_with_len a n) ≡ []
nothing_of f a zero none = refl
nothing_of f a (suc n) none =
    ap (λ l. l ++ flat_map f (range_with_len (a + 1) n)) (none a (omega arith) (omega arith))
    ∙ nothing_of f (a + 1) n (λ k from to. none k (omega (arith, from)) (omega (arith, to)))

-- where all but one give nothing, all give what that one does
pub one_of : {A : Type 0} (f : ℕ → List A) (a n k : ℕ) → a ≤ k → k < a + n → ((j : ℕ) → j ≢ k → f j ≡ []) → flat_map f (range_with_len a n) ≡ f k
one_of f a zero k low high others = absurd (omega (arith, low, high))
one_of f a (suc n) k low high others = elim (cases_lt a k) [
  | inl less ↦
      ap (λ l. l ++ flat_map f (range_with_len (a + 1) n)) (others a (λ same. omega (arith, same, less)))
      ∙ one_of f (a + 1) n k (omega (arith, less)) (omega (arith, high)) others
  | inr more ↦ (let e : k ≡ a = omega (arith, low, more) in
      subst (λ (j : ℕ). f a ++ flat_map f (range_with_len (a + 1) n) ≡ f j) (sym e)
      (ap (λ l. f a ++ l) (nothing_of f (a + 1) n (λ j from to. others j (λ same. omega (arith, same, e, from)))) ∙ append-nil (f a)))
]

-- where all pieces give nothing, so does each
pub nothing_in : {A : Type 0} (f : ℕ → List A) (a n k : ℕ) → flat_map f (range_with_len a n) ≡ [] → a ≤ k → k < a + n → f k ≡ []
nothing_in f a zero k none low high = absurd (omega (arith, low, high))
nothing_in f a (suc n) k none low high =
    let both = both_empty (f a) (flat_map f (range_with_len (a + 1) n)) none in
    elim (cases_lt a k) [
      | inl less ↦ nothing_in f (a + 1) n k both.1 (omega (arith, less)) (omega (arith, high))
      | inr more ↦ (let e : a ≡ k = omega (arith, low, more) in subst (λ (j : ℕ). f j ≡ []) e both.0)
    ]

-- nor do the pieces of a part
pub nothing_within : {A : Type 0} (f : ℕ → List A) (a n b m : ℕ) → flat_map f (range_with_len a n) ≡ [] → a ≤ b → b + m ≤ a + n → flat_map f (range_with_len b m) ≡ []
nothing_within f a n b m none low high = nothing_of f b m (λ k from to. nothing_in f a n k none (omega (arith, low, from)) (omega (arith, high, to)))

-- a part and the next one are one part
pub parts_added : {A : Type 0} (f : ℕ → List A) (n m : ℕ) → flat_map f (range_with_len 0 n) ++ flat_map f (range_with_len n m) ≡ flat_map f (range_with_len 0 (n + m))
parts_added f n m =
    let e : 0 + n ≡ n = omega arith in
    sym (range_more_than f 0 n m ∙ ap (λ k. flat_map f (range_with_len 0 n) ++ flat_map f (range_with_len k m)) e)
