-- Elements of a list by their names from 1: each stands one place below its name.
use Rattle.std.proofs.Common.{◌≡◌, ℕ, zero, suc, ◌-◌, ◌<◌, ◌≤◌, List, [], ◌∷◌, length, set, Some, None, refl, slice_get, slice_set, ap, arith}
use Rattle.std.proofs.Math.ListN.{length-set}
use Rattle.std.proofs.lemmas.Option.{slice_get_past}
use Rattle.rc_base.specs.Lists.{at_name, with_name}

pub at_name_below : {A : Type 0} (xs : List A) (name : ℕ) → 0 < name → at_name xs name ≡ slice_get xs (name - 1)
at_name_below xs zero some = absurd (omega arith)
at_name_below xs (suc n) some = ap (slice_get xs) (omega arith)

pub with_name_below : {A : Type 0} (xs : List A) (name : ℕ) (x : A) → 0 < name → with_name xs name x ≡ slice_set xs (name - 1) x
with_name_below xs zero x some = absurd (omega arith)
with_name_below xs (suc n) x some = ap (λ (k : ℕ). slice_set xs k x) (omega arith)

-- ---- after one of them was written

get_set_other : {A : Type 0} (l : List A) (k j : ℕ) (v : A) → (j ≡ k → ⊥) → slice_get (set l k v) j ≡ slice_get l j
get_set_other [] k j v ne = refl
get_set_other (a ∷ l) zero zero v ne = absurd (ne refl)
get_set_other (a ∷ l) zero (suc j) v ne = refl
get_set_other (a ∷ l) (suc k) zero v ne = refl
get_set_other (a ∷ l) (suc k) (suc j) v ne = get_set_other l k j v (λ e. ne (ap suc e))

get_set_same : {A : Type 0} (l : List A) (k : ℕ) (v : A) → k < length l → slice_get (set l k v) k ≡ Some v
get_set_same [] k v low = absurd (omega arith)
get_set_same (a ∷ l) zero v low = refl
get_set_same (a ∷ l) (suc k) v low = get_set_same l k v (omega arith)

pub other_name : {A : Type 0} (xs : List A) (name other : ℕ) (v : A) → (other ≡ name → ⊥) → at_name (with_name xs name v) other ≡ at_name xs other
other_name xs zero other v ne = refl
other_name xs (suc n) zero v ne = refl
other_name xs (suc n) (suc m) v ne = get_set_other xs n m v (λ e. ne (ap suc e))

pub same_name : {A : Type 0} (xs : List A) (n : ℕ) (v : A) → n < length xs → at_name (with_name xs (suc n) v) (suc n) ≡ Some v
same_name xs n v low = get_set_same xs n v low

pub name_past : {A : Type 0} (xs : List A) (n : ℕ) → length xs ≤ n → at_name xs (suc n) ≡ None
name_past xs n past = slice_get_past xs n past

pub length_with_name : {A : Type 0} (xs : List A) (name : ℕ) (v : A) → length (with_name xs name v) ≡ length xs
length_with_name xs zero v = refl
length_with_name xs (suc n) v = length-set xs n v
