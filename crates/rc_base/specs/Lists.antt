-- Membership and sequence in a list, elements that are named from 1, numbers that rise, fronts, and lists of pairs.
use Rattle.std.specs.Prelude.{◌≡◌, ℕ, zero, suc, ◌+◌, ◌<◌, ◌≤◌, List, [], ◌∷◌, ◌++◌, ◌⊎◌, Option, None, length, slice_get, slice_set, slice_index_or}

-- x is an element
abbrev pub IsIn : {A : Type 0} → A → List A → Type 0
IsIn x [] = ⊥
IsIn x (y ∷ ys) = (y ≡ x) ⊎ IsIn x ys

-- an a stands before a b
abbrev pub Stands : {A : Type 0} → A → A → List A → Type 0
Stands a b [] = ⊥
Stands a b (x ∷ xs) = ((x ≡ a) × IsIn b xs) ⊎ Stands a b xs

-- no element comes twice
abbrev pub NoRepeat : {A : Type 0} → List A → Type 0
NoRepeat [] = Unit {0}
NoRepeat (x ∷ xs) = (IsIn x xs → ⊥) × NoRepeat xs

-- the element of a name, where elements are named from 1 in their order
abbrev pub at_name : {A : Type 0} → List A → ℕ → Option A
at_name xs zero = None
at_name xs (suc n) = slice_get xs n

-- the list with another element of that name
abbrev pub with_name : {A : Type 0} → List A → ℕ → A → List A
with_name xs zero x = xs
with_name xs (suc n) x = slice_set xs n x

-- numbers that rise, from a number on, below an end
abbrev pub AreRising : ℕ → List ℕ → ℕ → Type 0
AreRising from [] end = from ≤ end
AreRising from (n ∷ ns) end = (from ≤ n) × (n < end) × AreRising (n + 1) ns end

-- the first list is a front of the second
abbrev pub IsFront : {A : Type 0} → List A → List A → Type 0
IsFront {A} front whole = (rest : List A) × (whole ≡ front ++ rest)

-- one of these for each of those, and each pair by its number is so
pub record ArePaired {A B : Type 0} (R : ℕ → A → B → Type 0) (xs : List A) (ys : List B) : Type 0 where
  pub count : length ys ≡ length xs
  pub at : (i : ℕ) (d : A) (e : B) → i < length xs → R i (slice_index_or xs i d) (slice_index_or ys i e)
