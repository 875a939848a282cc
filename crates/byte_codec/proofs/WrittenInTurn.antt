-- Items of a list that are written one after the other, each of which fits.
use Rattle.std.proofs.Common.{◌≡◌, ℕ, zero, suc, ◌+◌, ◌<◌, ◌≤◌, List, [], ◌∷◌, ◌++◌, length, get_or, take, drop, ap, ◌∙◌, arith}
use Rattle.std.specs.List.{AllByRecursion, flat_map}
use Rattle.std.proofs.lemmas.List.{take_more, flat_map_more, take_all}

module _ {X : Type 0} (P : X → Type 0) where
  pub all_both : (xs ys : List X) → AllByRecursion P xs → AllByRecursion P ys → AllByRecursion P (xs ++ ys)
  all_both [] ys h k = k
  all_both (x ∷ xs) ys h k = (h.0, all_both xs ys h.1 k)

  pub all_take : (n : ℕ) (xs : List X) → AllByRecursion P xs → AllByRecursion P (take n xs)
  all_take zero xs h = tt
  all_take (suc n) [] h = tt
  all_take (suc n) (x ∷ xs) h = (h.0, all_take n xs h.1)

  pub all_drop : (n : ℕ) (xs : List X) → AllByRecursion P xs → AllByRecursion P (drop n xs)
  all_drop zero xs h = h
  all_drop (suc n) [] h = tt
  all_drop (suc n) (x ∷ xs) h = all_drop n xs h.1

  pub all_at : (xs : List X) (i : ℕ) (d : X) → i < length xs → AllByRecursion P xs → P (get_or xs i d)
  all_at [] i d lt h = absurd (omega arith)
  all_at (x ∷ xs) zero d lt h = h.0
  all_at (x ∷ xs) (suc i) d lt h = all_at xs i d (omega arith) h.1

  pub all_grown : (xs : List X) (i : ℕ) (d : X) → i < length xs → AllByRecursion P (take i xs) → P (get_or xs i d) → AllByRecursion P (take (i + 1) xs)
  all_grown xs i d lt h k = rw (take_more xs i d lt) (all_both (take i xs) (get_or xs i d ∷ []) h (k, tt))

  pub all_whole : (xs : List X) (i : ℕ) → length xs ≤ i → AllByRecursion P (take i xs) → AllByRecursion P xs
  all_whole xs i le h = rw (take_all i xs le) at h

pub grown : {X : Type 0} (f : X → List ℕ) (old out new : List ℕ) (xs : List X) (i : ℕ) (d : X) → i < length xs → out ≡ old ++ flat_map f (take i xs) → new ≡ out ++ f (get_or xs i d)
    → new ≡ old ++ flat_map f (take (i + 1) xs)
grown f old out new xs i d lt h k = rw (take_more xs i d lt) (k ∙ ap (λ (l : List ℕ). l ++ f (get_or xs i d)) h ∙ flat_map_more f old (take i xs) (get_or xs i d))

pub grown_whole : {X : Type 0} (f : X → List ℕ) (old out : List ℕ) (xs : List X) (i : ℕ) → length xs ≤ i → out ≡ old ++ flat_map f (take i xs) → out ≡ old ++ flat_map f xs
grown_whole f old out xs i le h = rw (take_all i xs le) at h
