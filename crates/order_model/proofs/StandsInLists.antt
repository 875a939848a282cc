-- Where elements stand in lists, and what a list without one of its elements keeps.
use Rattle.std.proofs.Common.{◌≡◌, ◌<◌, List, [], ◌∷◌, ◌++◌, ◌⊎◌, inl, inr, refl, sym, ap, ◌∙◌, subst, lt_irrefl}
use Rattle.std.specs.List.{AllByRecursion}
use Rattle.rc_base.specs.Lists.{IsIn, Stands, NoRepeat}
use Rattle.rc_base.specs.declared.sync.Name.{Name}
use Rattle.scene_lemmas.proofs.Numbered.{is_in_behind}

pub first_in : {A : Type 0} (a b : A) (o : List A) → Stands a b o → IsIn a o
first_in a b [] h = h
first_in a b (x ∷ o) (inl h) = inl h.0
first_in a b (x ∷ o) (inr h) = inr (first_in a b o h)

pub second_in : {A : Type 0} (a b : A) (o : List A) → Stands a b o → IsIn b o
second_in a b [] h = h
second_in a b (x ∷ o) (inl h) = inr h.1
second_in a b (x ∷ o) (inr h) = inr (second_in a b o h)

pub not_both : {A : Type 0} (a b : A) (o : List A) → NoRepeat o → Stands a b o → Stands b a o → ⊥
not_both a b [] n h k = h
not_both a b (x ∷ o) n (inl h) (inl k) = n.0 (subst (λ z. IsIn z o) (sym h.0) k.1)
not_both a b (x ∷ o) n (inl h) (inr k) = n.0 (subst (λ z. IsIn z o) (sym h.0) (second_in b a o k))
not_both a b (x ∷ o) n (inr h) (inl k) = n.0 (subst (λ z. IsIn z o) (sym k.0) (second_in a b o h))
not_both a b (x ∷ o) n (inr h) (inr k) = not_both a b o n.1 h k

pub rising_once : (o : List Name) → ((a b : Name) → a.client ≡ b.client → Stands a b o → a.place < b.place) → NoRepeat o
rising_once [] h = tt
rising_once (n ∷ o) h = (λ i. lt_irrefl n.place (h n n refl (inl (refl, i))), rising_once o (λ a b e s. h a b e (inr s)))

-- of two elements one stands before the other
pub either_first : {A : Type 0} (a b : A) (o : List A) → IsIn a o → IsIn b o → (a ≡ b) ⊎ (Stands a b o ⊎ Stands b a o)
either_first a b [] i j = absurd i
either_first a b (x ∷ o) (inl e) (inl f) = inl (sym e ∙ f)
either_first a b (x ∷ o) (inl e) (inr j) = inr (inl (inl (e, j)))
either_first a b (x ∷ o) (inr i) (inl f) = inr (inr (inl (f, i)))
either_first a b (x ∷ o) (inr i) (inr j) = elim (either_first a b o i j) [
  | inl e ↦ inl e
  | inr s ↦ inr (elim s [ inl k ↦ inl (inr k) | inr k ↦ inr (inr k) ])
]

-- what holds of all elements
pub all_at : {A : Type 0} (P : A → Type 0) (x : A) (ys : List A) → AllByRecursion P ys → IsIn x ys → P x
all_at P x [] h i = absurd i
all_at P x (y ∷ ys) h (inl e) = subst P e h.0
all_at P x (y ∷ ys) h (inr i) = all_at P x ys h.1 i

-- ---- two lists, one behind the other

pub stands_split : {A : Type 0} (a b : A) (u v : List A) → Stands a b (u ++ v) → IsIn a u ⊎ Stands a b v
stands_split a b [] v h = inr h
stands_split a b (x ∷ u) v (inl h) = inl (inl h.0)
stands_split a b (x ∷ u) v (inr h) = elim (stands_split a b u v h) [ inl i ↦ inl (inr i) | inr k ↦ inr k ]

pub stands_right : {A : Type 0} (a b : A) (u v : List A) → Stands a b v → Stands a b (u ++ v)
stands_right a b [] v h = h
stands_right a b (x ∷ u) v h = inr (stands_right a b u v h)

pub in_append : {A : Type 0} (a : A) (u v : List A) → IsIn a (u ++ v) → IsIn a u ⊎ IsIn a v
in_append a [] v h = inr h
in_append a (x ∷ u) v (inl e) = inl (inl e)
in_append a (x ∷ u) v (inr h) = elim (in_append a u v h) [ inl i ↦ inl (inr i) | inr k ↦ inr k ]

pub stands_across : {A : Type 0} (a b : A) (u v : List A) → IsIn a u → IsIn b v → Stands a b (u ++ v)
stands_across a b [] v h k = absurd h
stands_across a b (x ∷ u) v (inl e) k = inl (e, is_in_behind b u v k)
stands_across a b (x ∷ u) v (inr h) k = inr (stands_across a b u v h k)

-- ---- a list with one element more

-- where a stands
pub take_out : {A : Type 0} (a : A) (xs : List A) → IsIn a xs → (u : List A) × (v : List A) × (xs ≡ u ++ a ∷ v)
take_out a [] h = absurd h
take_out a (x ∷ xs) (inl e) = ([], xs, ap (λ y. y ∷ xs) e)
take_out a (x ∷ xs) (inr h) = let r = take_out a xs h in (x ∷ r.0, r.1, ap (λ ys. x ∷ ys) r.2)

in_middle : {A : Type 0} (a : A) (u v : List A) → IsIn a (u ++ a ∷ v)
in_middle a [] v = inl refl
in_middle a (x ∷ u) v = inr (in_middle a u v)

pub before_middle : {A : Type 0} (a b : A) (u v : List A) → IsIn b u → Stands b a (u ++ a ∷ v)
before_middle a b [] v h = absurd h
before_middle a b (x ∷ u) v (inl e) = inl (e, in_middle a u v)
before_middle a b (x ∷ u) v (inr h) = inr (before_middle a b u v h)

pub in_more : {A : Type 0} (a n : A) (u v : List A) → IsIn n (u ++ v) → IsIn n (u ++ a ∷ v)
in_more a n [] v h = inr h
in_more a n (x ∷ u) v (inl e) = inl e
in_more a n (x ∷ u) v (inr h) = inr (in_more a n u v h)

pub in_left : {A : Type 0} (n : A) (u v : List A) → IsIn n u → IsIn n (u ++ v)
in_left n [] v h = absurd h
in_left n (x ∷ u) v (inl e) = inl e
in_left n (x ∷ u) v (inr h) = inr (in_left n u v h)

pub in_less : {A : Type 0} (a n : A) (u v : List A) → IsIn n (u ++ a ∷ v) → (a ≡ n) ⊎ IsIn n (u ++ v)
in_less a n [] v h = h
in_less a n (x ∷ u) v (inl e) = inr (inl e)
in_less a n (x ∷ u) v (inr h) = elim (in_less a n u v h) [ inl e ↦ inl e | inr k ↦ inr (inr k) ]

pub stands_more : {A : Type 0} (a x y : A) (u v : List A) → Stands x y (u ++ v) → Stands x y (u ++ a ∷ v)
stands_more a x y [] v h = inr h
stands_more a x y (z ∷ u) v (inl e) = inl (e.0, in_more a y u v e.1)
stands_more a x y (z ∷ u) v (inr h) = inr (stands_more a x y u v h)

pub no_repeat_less : {A : Type 0} (a : A) (u v : List A) → NoRepeat (u ++ a ∷ v) → (IsIn a (u ++ v) → ⊥) × NoRepeat (u ++ v)
no_repeat_less a [] v h = h
no_repeat_less a (x ∷ u) v h =
    let r = no_repeat_less a u v h.1 in (
      λ (k : IsIn a (x ∷ u ++ v)). elim k [ inl e ↦ h.0 (subst (λ z. IsIn z (u ++ a ∷ v)) (sym e) (in_middle a u v)) | inr i ↦ r.0 i ],
      (λ i. h.0 (in_more a x u v i), r.1),
    )
