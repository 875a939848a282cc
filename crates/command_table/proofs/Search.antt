-- Searching a list from a place on.
use Rattle.std.proofs.Common.{◌≡◌, ℕ, ◌+◌, ◌<◌, ◌≤◌, Bool, true, false, cond, List, [], length, drop, get_or, ap, ◌∙◌, arith, Some}
use Rattle.std.specs.List.{find}
use Rattle.std.proofs.lemmas.List.{drop_more, nil_from_length, length-drop}

pub find_here : {A : Type 0} (p : A → Bool) (xs : List A) (i : ℕ) (d : A) → i < length xs → p (get_or xs i d) ≡ true → find p (drop i xs) ≡ Some (get_or xs i d)
find_here p xs i d l h = ap (find p) (drop_more xs i d l) ∙ ap (λ t. cond t (Some (get_or xs i d)) (find p (drop (i + 1) xs))) h

pub find_later : {A : Type 0} (p : A → Bool) (xs : List A) (i : ℕ) (d : A) → i < length xs → p (get_or xs i d) ≡ false → find p (drop i xs) ≡ find p (drop (i + 1) xs)
find_later p xs i d l h = ap (find p) (drop_more xs i d l) ∙ ap (λ t. cond t (Some (get_or xs i d)) (find p (drop (i + 1) xs))) h

-- what follows the end of a list
pub drop_end : {A : Type 0} (xs : List A) (i n : ℕ) → drop i xs ≡ [] → i ≤ n → drop n xs ≡ []
drop_end xs i n h l = nil_from_length (drop n xs) (omega (arith, length-drop n xs, length-drop i xs, ap length h))
