-- What one more item makes of a lane, and of functions of numbers.
use Rattle.std.proofs.Common.{◌≡◌, ◌≢◌, ℕ, List, [], ◌∷◌, ◌++◌, length, Option, Some, None, refl, sym, ap, ◌∙◌, subst, append_assoc, append-nil, slice_get}
use Rattle.std.proofs.lemmas.Bool.{ne_eqb}
use Rattle.std.specs.Prelude.{option_to_list, MatchOption}
use Rattle.rc_base.specs.Cluster.Sending.{Sending, ToTile, parcels_to}
use Rattle.rc_base.specs.declared.state.Parcel.{Parcel}
use Rattle.plain_lemmas.proofs.Numbers.{equal_to_itself}

-- ---- functions of numbers

-- where three things are equal to others
pub moved : {A B C : Type 0} (P : A → B → C → Type 0) (a a' : A) (b b' : B) (c c' : C) → a' ≡ a → b' ≡ b → c' ≡ c → P a b c → P a' b' c'
moved P a a' b b' c c' e f g h = subst (λ x. P x b' c') (sym e) (subst (λ y. P a y c') (sym f) (subst (λ z. P a b z) (sym g) h))

-- ---- items come and go

pub push_more : {A : Type 0} (xs : List A) (x : A) (ys : List A) → (xs ++ x ∷ []) ++ ys ≡ xs ++ x ∷ ys
push_more xs x ys = append_assoc xs (x ∷ []) ys

-- the first item that is still to come is appended
pub gains : {A : Type 0} (all took held rest : List A) (x : A) → all ≡ took ++ (held ++ x ∷ rest) → all ≡ took ++ ((held ++ x ∷ []) ++ rest)
gains all took held rest x h = h ∙ ap (λ xs. took ++ xs) (sym (push_more held x rest))

-- the first item that is held is taken
pub loses : {A : Type 0} (all took held now coming : List A) (x : A) → held ≡ x ∷ now → all ≡ took ++ (held ++ coming) → all ≡ (took ++ x ∷ []) ++ (now ++ coming)
loses all took held now coming x e h = h ∙ ap (λ xs. took ++ (xs ++ coming)) e ∙ sym (push_more took x (now ++ coming))

-- an item is taken, or none
pub takes : {A : Type 0} (o : Option A) (all took held now coming : List A) → MatchOption o (now ≡ held) (λ x. held ≡ x ∷ now) → all ≡ took ++ (held ++ coming)
    → all ≡ (took ++ option_to_list o) ++ (now ++ coming)
takes None all took held now coming e h = h ∙ ap (λ xs. took ++ (xs ++ coming)) (sym e) ∙ ap (λ xs. xs ++ (now ++ coming)) (sym (append-nil took))
takes (Some x) all took held now coming e h = loses all took held now coming x e h

-- and the items so far are the same
pub same_so_far : {A : Type 0} (o : Option A) (took held now : List A) → MatchOption o (now ≡ held) (λ x. held ≡ x ∷ now) → (took ++ option_to_list o) ++ now ≡ took ++ held
same_so_far None took held now e = ap (λ xs. xs ++ now) (append-nil took) ∙ ap (λ xs. took ++ xs) e
same_so_far (Some x) took held now e = push_more took x now ∙ ap (λ xs. took ++ xs) (sym e)

-- what is left of lanes that held the same is the same
pub same_rest : {A : Type 0} (o : Option A) (held held' now now' : List A) → held' ≡ held → MatchOption o (now ≡ held) (λ x. held ≡ x ∷ now) → MatchOption o (now' ≡ held') (λ x. held' ≡ x ∷ now')
    → now' ≡ now
same_rest None held held' now now' e m m' = m' ∙ e ∙ sym m
same_rest (Some x) held held' now now' e m m' = let both : x ∷ now' ≡ x ∷ now = sym m' ∙ e ∙ m in cc

-- what is taken is first in a lane that holds the same
pub is_first : {A : Type 0} (o : Option A) (here held now : List A) → here ≡ held → MatchOption o (now ≡ held) (λ x. held ≡ x ∷ now) → MatchOption o (Unit {0}) (λ x. (rest : List A) × (here ≡ x ∷ rest))
is_first None here held now e m = tt
is_first (Some x) here held now e m = (now, e ∙ m)

-- the item behind those before it
pub get_behind : {A : Type 0} (xs ys : List A) (x : A) → slice_get (xs ++ x ∷ ys) (length xs) ≡ Some x
get_behind [] ys x = refl
get_behind (z ∷ xs) ys x = get_behind xs ys x

-- ---- what is still to be sent

pub this_tile : (tile : ℕ) (p : Parcel) (rest : List Sending) → parcels_to tile (ToTile tile p ∷ rest) ≡ p ∷ parcels_to tile rest
this_tile tile p rest = rw (equal_to_itself tile) refl

pub other_tile : (other tile : ℕ) (p : Parcel) (rest : List Sending) → other ≢ tile → parcels_to other (ToTile tile p ∷ rest) ≡ parcels_to other rest
other_tile other tile p rest ne = rw (ne_eqb other tile ne) refl
