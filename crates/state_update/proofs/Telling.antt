-- What is kept of a tile after a parcel agrees with what the tile was told.
use Rattle.std.proofs.Common.{◌≡◌, ℕ, zero, suc, ◌+◌, ◌<◌, ◌≤◌, Bool, true, false, List, [], ◌∷◌, ◌++◌, length, fold, Some, None, ◌⊎◌, inl, inr, refl, sym, ap, subst, ◌∙◌, arith, eqb-true, eq-eqb, ne_eqb}
use Rattle.std.specs.Prelude.{if◌then◌else◌, ◌≢◌, unwrap_or}
use Rattle.std.specs.List.{flat_map, range_with_len}
use Rattle.std.specs.Option.{option_map_or}
use Rattle.std.specs.declared.option.Option.{Option}
use Rattle.std.proofs.lemmas.Grind.{flat_map-append}
use Rattle.std.proofs.lemmas.List.Sums.{fold-append}
use native.Mathlib.Decide.{ℕ_discrete}
use mathlib.Core.Logic.{dite}
use Rattle.rc_base.specs.Contexts.Context.{ClientContext, private_count, edit_of}
use Rattle.rc_base.specs.Contexts.Elements.{value_in, scalar_count, image_element, same_value}
use Rattle.rc_base.specs.Cluster.Parcels.{told_by, set_of, sets_for}
use Rattle.rc_base.specs.declared.state.ElementValue.{ElementValue}
use Rattle.textures.proofs.Names.{other_name, same_name, length_with_name}
use Rattle.state_update.specs.declared.told.Told.{Told}
use Rattle.state_update.specs.Knowledge.{Agrees, IsImageOf, after_sets, edit_told, image_examined, scalar_value, told_after}
use Rattle.element_table.proofs.SameValues.{same_is, scalar_at}
use Rattle.state_update.proofs.Knowing.{IsThere, image_in_context, image_is_examined, image_same, is_there, scalar_in_context}

module _ (values : ℕ → ElementValue) (x : ClientContext) where
  -- an element's value after the sets of these elements
  abbrev pub after : ℕ → List ℕ → ElementValue → ElementValue
  after e es v = fold (told_by e) v (flat_map (set_of values x) es)

  after_more : (e : ℕ) (es fs : List ℕ) (v : ElementValue) → after e (es ++ fs) v ≡ after e fs (after e es v)
  after_more e es fs v =
      ap (fold (told_by e) v) (flat_map-append (set_of values x) es fs)
      ∙ fold-append (told_by e) v (flat_map (set_of values x) es) (flat_map (set_of values x) fs)

  other_by : (e k : ℕ) (v : ElementValue) (same : Bool) → k ≢ e
      → fold (told_by e) v (if same then [] else record { element = k; value = value_in x k } ∷ []) ≡ v
  other_by e k v true ne = refl
  other_by e k v false ne = ap (λ (b : Bool). if b then value_in x k else v) (ne_eqb k e ne)

  pub other_set : (e k : ℕ) (v : ElementValue) → k ≢ e → fold (told_by e) v (set_of values x k) ≡ v
  other_set e k v ne = other_by e k v (same_value (values k) (value_in x k)) ne

  own_by : (e : ℕ) (same : Bool)
      → fold (told_by e) (values e) (if same then [] else record { element = e; value = value_in x e } ∷ []) ≡ (if same then values e else value_in x e)
  own_by e true = refl
  own_by e false = ap (λ (b : Bool). if b then value_in x e else values e) (eq-eqb e e refl)

  -- it is the value before where that is the same
  own_set : (e : ℕ) → fold (told_by e) (values e) (set_of values x e) ≡ (if same_value (values e) (value_in x e) then values e else value_in x e)
  own_set e = own_by e (same_value (values e) (value_in x e))

  pub after_cons : (e k : ℕ) (es : List ℕ) (v : ElementValue) → after e (k ∷ es) v ≡ after e es (fold (told_by e) v (set_of values x k))
  after_cons e k es v = fold-append (told_by e) v (set_of values x k) (flat_map (set_of values x) es)

  beyond : (e a n : ℕ) (v : ElementValue) → (e < a) ⊎ (a + n ≤ e) → after e (range_with_len a n) v ≡ v
  beyond e a zero v out = refl
  beyond e a (suc n) v out =
      after_cons e a (range_with_len (a + 1) n) v
      ∙ ap (after e (range_with_len (a + 1) n)) (other_set e a v (λ same. elim out [
        | inl lt ↦ absurd (omega (arith, same, lt))
        | inr ge ↦ absurd (omega (arith, same, ge))
      ]))
      ∙ beyond e (a + 1) n v (elim out [
        | inl lt ↦ inl (omega (arith, lt))
        | inr ge ↦ inr (omega (arith, ge))
      ])

  within : (e a n : ℕ) → a ≤ e → e < a + n → after e (range_with_len a n) (values e) ≡ (if same_value (values e) (value_in x e) then values e else value_in x e)
  within e a zero low high = absurd (omega (arith, low, high))
  within e a (suc n) low high =
      after_cons e a (range_with_len (a + 1) n) (values e)
      ∙ dite (ℕ_discrete a e)
      (λ (same : a ≡ e).
      ap (after e (range_with_len (a + 1) n)) (subst (λ k. fold (told_by e) (values e) (set_of values x k) ≡ (if same_value (values e) (value_in x e) then values e else value_in x e)) (sym same) (own_set e))
      ∙ beyond e (a + 1) n _ (inl (omega (arith, same))))
      (λ (ne : a ≢ e).
      ap (after e (range_with_len (a + 1) n)) (other_set e a (values e) ne)
      ∙ within e (a + 1) n (omega (arith, low, ne)) (omega (arith, high)))

  abbrev image_of_option : Option ℕ → List ℕ
  image_of_option image = option_map_or (λ (k : ℕ). image_element k ∷ []) image []

  -- the value after all sets of a parcel: first those of the scalar elements, then that of an image
  after_parcel : (draws : Bool) (e : ℕ)
      → after_sets values (sets_for values x draws) e ≡ after e (image_of_option (image_examined x draws)) (after e (range_with_len 0 scalar_count) (values e))
  unfolding sets_for
  after_parcel draws e =
      ap (λ (l : List ℕ). after e (range_with_len 0 scalar_count ++ l) (values e)) (image_is_examined x draws)
      ∙ after_more e (range_with_len 0 scalar_count) (image_of_option (image_examined x draws)) (values e)

  -- ---- scalar elements

  own_scalar : (t : Told) (e : ℕ) → e < scalar_count → (b : Bool) → same_value (values e) (value_in x e) ≡ b → (if b then values e else value_in x e) ≡ scalar_value x.state e
  own_scalar t e lt true same =
      let now = scalar_in_context x e lt in
      same_is (values e) (scalar_value x.state e) (scalar_at x.state e lt) (subst (λ v. same_value (values e) v ≡ true) now same)
  own_scalar t e lt false same = scalar_in_context x e lt

  apart_of_image : (e : ℕ) (image : Option ℕ) (v : ElementValue) → e < scalar_count → ((name : ℕ) → image ≡ Some name → 0 < name) → after e (image_of_option image) v ≡ v
  apart_of_image e None v lt low = refl
  apart_of_image e (Some name) v lt low =
      let some = low name refl in
      after_cons e (image_element name) [] v ∙ other_set e (image_element name) v (λ same. absurd (omega (arith, same, lt, some)))

  -- ---- images

  image_by : (t : Told) (image : Option ℕ) (name : ℕ) → Agrees t values → 0 < name → name ≤ private_count
      → ((n : ℕ) → image ≡ Some n → (0 < n) × IsThere x n)
      → IsImageOf (after (image_element name) (image_of_option image) (values (image_element name))) (edit_told (told_after t x image) name)
  image_by t None name a some most there = a.images name some most
  image_by t (Some n) name a some most there =
      let v = values (image_element name) in
      let h = there n refl in
      dite (ℕ_discrete n name) (λ (same : n ≡ name). own n name same h.0 h.1 some most) (λ (ne : n ≢ name). others n name ne h.0 some most)
    where
      edit_now : (name : ℕ) → 0 < name → name ≤ private_count → edit_told (told_after t x (Some name)) name ≡ edit_of x name
      edit_now zero low high = absurd (omega (arith, low))
      edit_now (suc k) low high = ap (λ (o : Option ℕ). unwrap_or o 0) (same_name t.edits k (edit_of x (suc k)) (omega (arith, high, a.names)))

      by_same : (name : ℕ) → 0 < name → name ≤ private_count → IsThere x name → (b : Bool) → same_value (values (image_element name)) (value_in x (image_element name)) ≡ b
          → IsImageOf (if b then values (image_element name) else value_in x (image_element name)) (edit_of x name)
      by_same name low high is true e =
          let told : edit_told t name ≡ edit_of x name = eqb-true (edit_told t name) (edit_of x name) (sym (image_same t values x name a low high is) ∙ e) in
          subst (IsImageOf (values (image_element name))) told (a.images name low high)
      by_same name low high is false e = rw (image_in_context x name low, is.is) refl

      own : (n name : ℕ) → n ≡ name → 0 < n → IsThere x n → 0 < name → name ≤ private_count
          → IsImageOf (after (image_element name) (image_element n ∷ []) (values (image_element name))) (edit_told (told_after t x (Some n)) name)
      own n name same low is some most =
          subst (λ (k : ℕ). IsImageOf (after (image_element name) (image_element k ∷ []) (values (image_element name))) (edit_told (told_after t x (Some k)) name)) (sym same)
          (subst (IsImageOf (after (image_element name) (image_element name ∷ []) (values (image_element name)))) (sym (edit_now name some most))
          (subst (λ v. IsImageOf v (edit_of x name)) (sym (after_cons (image_element name) (image_element name) [] (values (image_element name)) ∙ own_set (image_element name)))
          (by_same name some most (subst (IsThere x) same is) (same_value (values (image_element name)) (value_in x (image_element name))) refl)))

      others : (n name : ℕ) → n ≢ name → 0 < n → 0 < name → name ≤ private_count
          → IsImageOf (after (image_element name) (image_element n ∷ []) (values (image_element name))) (edit_told (told_after t x (Some n)) name)
      others n name ne low some most =
          subst (IsImageOf (after (image_element name) (image_element n ∷ []) (values (image_element name))))
          (sym (ap (λ (o : Option ℕ). unwrap_or o 0) (other_name t.edits n name (edit_of x n) (λ same. ne (sym same)))))
          (subst (λ v. IsImageOf v (edit_told t name)) (sym (after_cons (image_element name) (image_element n) [] (values (image_element name)) ∙ other_set (image_element name) (image_element n) (values (image_element name)) (λ same. ne (omega (arith, same, low, some)))))
          (a.images name some most))

  names_kept : (t : Told) (image : Option ℕ) → length t.edits ≡ private_count → length (told_after t x image).edits ≡ private_count
  names_kept t None h = h
  names_kept t (Some name) h = length_with_name t.edits name (edit_of x name) ∙ h

  pub agrees_after : (t : Told) (draws : Bool) → Agrees t values
      → ((name : ℕ) → image_examined x draws ≡ Some name → (0 < name) × (name ≤ private_count))
      → Agrees (told_after t x (image_examined x draws)) (after_sets values (sets_for values x draws))
  agrees_after t draws a named = record {
    names = names_kept t (image_examined x draws) a.names;
    scalars = λ e lt.
        after_parcel draws e
        ∙ apart_of_image e (image_examined x draws) _ lt (λ name is. (named name is).0)
        ∙ within e 0 scalar_count (omega arith) (omega (arith, lt))
        ∙ own_scalar t e lt (same_value (values e) (value_in x e)) refl;
    images = λ name some most.
        let first = beyond (image_element name) 0 scalar_count (values (image_element name)) (inr (omega (arith, some))) in
        subst (λ v. IsImageOf v (edit_told (told_after t x (image_examined x draws)) name))
        (sym (after_parcel draws (image_element name) ∙ ap (after (image_element name) (image_of_option (image_examined x draws))) first))
        (image_by t (image_examined x draws) name a some most (λ n is. ((named n is).0, is_there x draws n is)));
  }
