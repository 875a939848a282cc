-- The sets of a parcel, element by element.
use Rattle.std.proofs.Common.{◌≡◌, ℕ, ◌-◌, ◌<◌, ◌≤◌, ◌==◌, ◌||◌, Bool, true, false, List, [], ◌∷◌, ◌++◌, length, Some, None, inl, inr, refl, sym, ap, ap₂, subst, ◌∙◌, arith, eqb-true, eq-eqb, ne_eqb}
use Rattle.std.specs.Prelude.{if◌then◌else◌, nat_eq, nat_lt, slice_get, slice_index_or}
use Rattle.std.specs.List.{flat_map, list_any, range_with_len}
use Rattle.std.specs.Option.{option_map_or}
use Rattle.std.specs.declared.option.Option.{Option}
use Rattle.std.proofs.Math.Bool.{or-false}
use Rattle.std.proofs.lemmas.Bool.{cases_lt, le-ltb, lt-ltb}
use Rattle.std.proofs.lemmas.List.Folds.{list_any-append}
use Rattle.std.proofs.lemmas.Option.{slice_get-get_or}
use Rattle.dirty_bits.specs.Bits.{is_dirty}
use Rattle.dirty_bits.proofs.Ranges.{any_number}
use Rattle.rc_base.specs.Contexts.Context.{ClientContext, edit_of, private_count}
use Rattle.rc_base.specs.Contexts.Elements.{element_count, image_element, same_value, scalar_count, value_in}
use Rattle.rc_base.specs.Cluster.Parcels.{examined}
use Rattle.rc_base.specs.declared.state.ElementSet.{ElementSet}
use Rattle.rc_base.specs.declared.state.ElementValue.{ElementValue}
use Rattle.rc_base.specs.declared.state.ElementValue.TheVariants as val
use Rattle.state_update.specs.declared.told.Told.{Told}
use Rattle.state_update.specs.Knowledge.{Agrees, CleanElementsAreNotSet, IsImageOf, IsPrivateName, edit_told, element_sets, image_examined, image_of, image_set, image_sets, is_examined, scalar_set, scalar_value, sets_by}
use Rattle.state_update.proofs.InTurn.{nothing_of, one_of, range_more_than, same_in_turn}
use Rattle.state_update.proofs.Knowing.{image_is_examined, image_same, is_there, scalar_in_context}

-- ---- the sets

scalar_sets_are : (t : Told) (x : ClientContext) (image : Option ℕ) (e : ℕ) → e < scalar_count → element_sets t x image e ≡ scalar_set t.state x.state e
scalar_sets_are t x image e lt =
    ap (λ (b : Bool). if b then scalar_set t.state x.state e else option_map_or (λ (name : ℕ). if image_element name == e then image_set t x name else []) image [])
    (lt-ltb e scalar_count lt)

image_sets_are : (t : Told) (x : ClientContext) (image : Option ℕ) (e : ℕ) → scalar_count ≤ e
    → element_sets t x image e ≡ option_map_or (λ (name : ℕ). if image_element name == e then image_set t x name else []) image []
image_sets_are t x image e ge =
    ap (λ (b : Bool). if b then scalar_set t.state x.state e else option_map_or (λ (name : ℕ). if image_element name == e then image_set t x name else []) image [])
    (le-ltb e scalar_count ge)

abbrev at_image : Told → ClientContext → ℕ → ℕ → List ElementSet
at_image t x name e = if image_element name == e then image_set t x name else []

images_by_elements : (t : Told) (x : ClientContext) (image : Option ℕ) → IsPrivateName image
    → flat_map (λ e. option_map_or (λ (name : ℕ). at_image t x name e) image []) (range_with_len scalar_count private_count) ≡ image_sets t x image
images_by_elements t x None named = nothing_of (λ e. []) scalar_count private_count (λ k from to. refl)
images_by_elements t x (Some name) named =
    one_of (at_image t x name) scalar_count private_count (image_element name) (omega (arith, named.0)) (omega (arith, named.0, named.1))
    (λ e other. ap (λ (b : Bool). if b then image_set t x name else []) (ne_eqb (image_element name) e (λ same. other (sym same))))
    ∙ ap (λ (b : Bool). if b then image_set t x name else []) (eq-eqb (image_element name) (image_element name) refl)

pub sets_by_elements : (t : Told) (x : ClientContext) (image : Option ℕ) → IsPrivateName image
    → sets_by t x image ≡ flat_map (element_sets t x image) (range_with_len 0 element_count)
unfolding sets_by
sets_by_elements t x image named = sym (
    range_more_than (element_sets t x image) 0 scalar_count private_count
    ∙ ap₂ (λ (l r : List ElementSet). l ++ r)
    (same_in_turn (element_sets t x image) (scalar_set t.state x.state) 0 scalar_count (λ k from to. scalar_sets_are t x image k (omega (arith, to))))
    (same_in_turn (element_sets t x image) (λ e. option_map_or (λ (name : ℕ). at_image t x name e) image []) scalar_count private_count (λ k from to. image_sets_are t x image k from)
    ∙ images_by_elements t x image named))

-- ---- elements that are clean

-- some values that a tile was told of which this is kept
pub values_told : Told → ℕ → ElementValue
values_told t e = if nat_lt e scalar_count then scalar_value t.state e else val.Image (edit_told t (e - 21)) 0 0 []

pub agrees_with_itself : (t : Told) → length t.edits ≡ private_count → Agrees t (values_told t)
unfolding values_told
agrees_with_itself t count = record {
  names = count;
  scalars = λ e lt. ap (λ (b : Bool). if b then scalar_value t.state e else val.Image (edit_told t (e - 21)) 0 0 []) (lt-ltb e scalar_count lt);
  images = λ name some most.
      let e = image_element name in
      let is : e - 21 ≡ name = omega (arith, some) in
      subst (λ (v : ElementValue). IsImageOf v (edit_told t name))
      (sym (ap (λ (b : Bool). if b then scalar_value t.state e else val.Image (edit_told t (e - 21)) 0 0 []) (le-ltb e scalar_count (omega (arith, some)))))
      (ap (edit_told t) is);
}

pub is_there_now : (told : List Told) (tile : ℕ) (now : Told) → tile < length told → now ≡ slice_index_or told tile now → slice_get told tile ≡ Some now
is_there_now told tile now room reads = slice_get-get_or told tile now room ∙ ap (λ (t : Told). Some t) (sym reads)

module _ (bits : List ℕ) (tile : ℕ) (x : ClientContext) (draws : Bool) (values : ℕ → ElementValue) (t : Told) (a : Agrees t values)
    (named : (name : ℕ) → image_examined x draws ≡ Some name → (0 < name) × (name ≤ private_count))
    (settled : (e : ℕ) → e < element_count → is_dirty bits e tile ≡ false → same_value (values e) (value_in x e) ≡ true) where
  clean_scalar : (e : ℕ) → e < scalar_count → is_dirty bits e tile ≡ false → scalar_set t.state x.state e ≡ []
  clean_scalar e lt off =
      let same : same_value (scalar_value t.state e) (scalar_value x.state e) ≡ true =
      sym (ap₂ same_value (a.scalars e lt) (scalar_in_context x e lt)) ∙ settled e (omega (arith, lt)) off in
      ap (λ (b : Bool). if b then [] else record { element = e; value = scalar_value x.state e } ∷ []) same

  clean_image : (image : Option ℕ) (e : ℕ) → image_examined x draws ≡ image → e < element_count → is_dirty bits e tile ≡ false
      → option_map_or (λ (name : ℕ). at_image t x name e) image [] ≡ []
  clean_image None e is lt off = refl
  clean_image (Some name) e is lt off = by (image_element name == e) refl
    where
      by : (b : Bool) → (image_element name == e) ≡ b → (if b then image_set t x name else []) ≡ []
      by false other = refl
      by true own =
          let k : image_element name ≡ e = eqb-true (image_element name) e own in
          let h = named name is in
          let same : (edit_told t name == edit_of x name) ≡ true =
          sym (image_same t values x name a h.0 h.1 (is_there x draws name is)) ∙ settled (image_element name) (omega (arith, lt, k)) (ap (λ (j : ℕ). is_dirty bits j tile) k ∙ off) in
          ap (λ (b : Bool). if b then [] else record { element = image_element name; value = image_of x name } ∷ []) same

  pub clean_elements : CleanElementsAreNotSet bits tile t x (image_examined x draws)
  clean_elements e lt off = elim (cases_lt e scalar_count) [
    | inl scalar ↦ scalar_sets_are t x (image_examined x draws) e scalar ∙ clean_scalar e scalar off
    | inr image ↦ image_sets_are t x (image_examined x draws) e image ∙ clean_image (image_examined x draws) e refl lt off
  ]

-- ---- the elements that a parcel examines

pub examined_are : (x : ClientContext) (draws : Bool) (e : ℕ) → is_examined (image_examined x draws) e ≡ list_any (nat_eq e) (examined x draws)
examined_are x draws e = sym (
    list_any-append (nat_eq e) (range_with_len 0 scalar_count) _
    ∙ ap₂ (λ (a b : Bool). a || b) (any_number e scalar_count)
    (ap (list_any (nat_eq e)) (image_is_examined x draws) ∙ by (image_examined x draws)))
  where
    by : (image : Option ℕ) → list_any (nat_eq e) (option_map_or (λ (k : ℕ). image_element k ∷ []) image []) ≡ option_map_or (λ (name : ℕ). e == image_element name) image false
    by None = refl
    by (Some name) = or-false (e == image_element name)
