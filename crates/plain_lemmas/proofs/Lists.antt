-- Lists that are joined, and what stands at a place of one.
use Rattle.std.proofs.Common.{◌≡◌, List, [], ◌∷◌, ◌++◌, refl, ℕ, zero, suc, Some, ◌+◌, length, ap, ◌∙◌, arith, ◌<◌, true, drop, get_or, sym, take}
use Rattle.std.specs.List.{All, AllByRecursion}
use Rattle.std.specs.Prelude.{slice_get, is_some}
use Rattle.std.proofs.lemmas.Option.{get_or_from_slice_get}
use Rattle.std.proofs.lemmas.List.{take_at, drop_at}

pub both_empty : {A : Type 0} (xs ys : List A) → xs ++ ys ≡ [] → (xs ≡ []) × (ys ≡ [])
both_empty [] ys e = (refl, e)
both_empty (x ∷ xs) ys e = absurd cc

pub get_in_front : {A : Type 0} (xs ys : List A) (k : ℕ) (x : A) → slice_get xs k ≡ Some x → slice_get (xs ++ ys) k ≡ Some x
get_in_front [] ys k x e = absurd cc
get_in_front (y ∷ xs) ys zero x e = e
get_in_front (y ∷ xs) ys (suc k) x e = get_in_front xs ys k x e

pub get_behind : {A : Type 0} (xs ys : List A) (k : ℕ) → slice_get (xs ++ ys) (length xs + k) ≡ slice_get ys k
get_behind [] ys k = let z : 0 + k ≡ k = omega arith in ap (slice_get ys) z
get_behind (x ∷ xs) ys k = let z : suc (length xs) + k ≡ suc (length xs + k) = omega arith in ap (slice_get (x ∷ xs ++ ys)) z ∙ get_behind xs ys k

pub is_some_within : {A : Type 0} (xs : List A) (k : ℕ) → k < length xs → is_some (slice_get xs k) ≡ true
is_some_within [] k lt = absurd (omega (arith, lt))
is_some_within (x ∷ xs) zero lt = refl
is_some_within (x ∷ xs) (suc k) lt = is_some_within xs k (omega (arith, lt))

-- what is left of a list from a place on: the item there, and what is left behind it
pub drop_is_item_first : {A : Type 0} (xs : List A) (k : ℕ) (x : A) → k < length xs → x ≡ get_or xs k x → drop k xs ≡ x ∷ drop (k + 1) xs
drop_is_item_first [] k x lt is = absurd (omega arith)
drop_is_item_first (y ∷ xs) zero x lt is = ap (λ z. z ∷ xs) (sym is)
drop_is_item_first (y ∷ xs) (suc k) x lt is = let step : suc k + 1 ≡ suc (k + 1) = omega arith in drop_is_item_first xs k x (omega arith) is ∙ ap (λ n. x ∷ drop n (y ∷ xs)) (sym step)

-- what holds of all items holds of all behind the first one
pub all_behind_first : {A : Type 0} (P : A → Type 0) (t : A) (rest more : List A) → rest ≡ t ∷ more → All P rest → All P more
all_behind_first P t rest more e all k d lt = (rw e at all) (suc k) d (omega arith)

pub item_within : {A : Type 0} (xs : List A) (k : ℕ) → k < length xs → (x : A) × (slice_get xs k ≡ Some x)
item_within [] k lt = absurd (omega (arith, lt))
item_within (x ∷ xs) zero lt = (x, refl)
item_within (x ∷ xs) (suc k) lt = item_within xs k (omega (arith, lt))

-- an item that is read is the one that stands there
pub read_is_item : {A : Type 0} (xs : List A) (k : ℕ) (x v : A) → slice_get xs k ≡ Some v → x ≡ get_or xs k x → x ≡ v
read_is_item xs k x v e found = found ∙ get_or_from_slice_get xs k v x e

-- two lists with fronts of one length
pub same_parts : {A : Type 0} (a b x y : List A) → length a ≡ length b → a ++ x ≡ b ++ y → (a ≡ b) × (x ≡ y)
same_parts a b x y size e = (
  sym (take_at a x (length b) size) ∙ ap (take (length b)) e ∙ take_at b y (length b) refl,
  sym (drop_at a x (length b) size) ∙ ap (drop (length b)) e ∙ drop_at b y (length b) refl,
)

pub all_append : {A : Type 0} (P : A → Type 0) (xs ys : List A) → AllByRecursion P xs → AllByRecursion P ys → AllByRecursion P (xs ++ ys)
all_append P [] ys h k = k
all_append P (x ∷ xs) ys h k = (h.0, all_append P xs ys h.1 k)

-- and of the first one
pub first_of_all : {A : Type 0} (P : A → Type 0) (t : A) (rest more : List A) → rest ≡ t ∷ more → All P rest → P t
first_of_all P t rest more e all = (rw e at all) 0 t (omega arith)
