-- A list over numbers in turn, with one more at its end.
use Rattle.std.proofs.Common.{◌≡◌, ℕ, zero, suc, ◌+◌, [], ◌∷◌, ◌++◌, ap, ◌∙◌, arith, add-one}
use Rattle.std.specs.Prelude.{map}
use Rattle.std.specs.List.{range_with_len}

-- one more number at the end
pub map_more : {A : Type 0} (f : ℕ → A) (a n j : ℕ) → a + n ≡ j → map f (range_with_len a (n + 1)) ≡ map f (range_with_len a n) ++ f j ∷ []
map_more f a n j e = ap (λ k. map f (range_with_len a k)) (add-one n) ∙ more f a n j e
  where
    more : {A : Type 0} (f : ℕ → A) (a n j : ℕ) → a + n ≡ j → map f (range_with_len a (suc n)) ≡ map f (range_with_len a n) ++ f j ∷ []
    more f a zero j e = let same : a ≡ j = omega arith in ap (λ k. f k ∷ []) same
    more f a (suc n) j e = ap (λ l. f a ∷ l) (more f (a + 1) n j (omega arith))
