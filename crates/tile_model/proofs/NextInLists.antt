-- The next element of a list, what comes behind it, and elements of a longer list.
use Rattle.std.proofs.Common.{◌≡◌, ℕ, zero, suc, ◌+◌, List, [], ◌∷◌, ◌++◌, drop, take, Some, slice_get, ap, arith}

-- an element's number, and the list from there on
pub next_is : {A : Type 0} (xs : List A) (k : ℕ) (x : A) → slice_get xs k ≡ Some x → (rest : List A) × (drop k xs ≡ x ∷ rest)
next_is [] zero x e = absurd cc
next_is [] (suc k) x e = absurd cc
next_is (y ∷ xs) zero x e = (xs, let f : y ≡ x = cc in ap (λ z. z ∷ xs) f)
next_is (y ∷ xs) (suc k) x e = next_is xs k x e

-- in a longer list too
pub drop_front : {A : Type 0} (k : ℕ) (xs ys : List A) (x : A) (rest : List A) → drop k xs ≡ x ∷ rest → drop k (xs ++ ys) ≡ x ∷ (rest ++ ys)
drop_front zero xs ys x rest e = ap (λ l. l ++ ys) e
drop_front (suc k) [] ys x rest e = absurd cc
drop_front (suc k) (z ∷ xs) ys x rest e = drop_front k xs ys x rest e

-- one element more
pub take_more : {A : Type 0} (k : ℕ) (xs : List A) (x : A) (rest : List A) → drop k xs ≡ x ∷ rest → take (k + 1) xs ≡ take k xs ++ x ∷ []
take_more zero [] x rest e = absurd cc
take_more zero (y ∷ xs) x rest e = let f : y ≡ x = cc in ap (λ z. z ∷ []) f
take_more (suc k) [] x rest e = absurd cc
take_more (suc k) (y ∷ xs) x rest e = let f : suc k + 1 ≡ suc (k + 1) = omega arith in rw f (ap (λ l. y ∷ l) (take_more k xs x rest e))

-- ---- membership
