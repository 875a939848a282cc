-- Sets of elements: what one makes of what is kept of a client, and several, one after the other.
use Rattle.std.proofs.Common.{◌≡◌, ℕ, zero, suc, ◌*◌, ◌<◌, ◌==◌, ◌&&◌, Bool, true, List, [], ◌∷◌, fold, length, Some, None, refl, sym, ap, ◌∙◌, subst, arith, inl, inr, eqb-true, eq-eqb, ne_eqb, ltb-true}
use Rattle.std.specs.Prelude.{nat_le, nat_lt, slice_index_or, slice_set, if◌then◌else◌, unwrap_or}
use Rattle.std.specs.declared.option.Option.{Option}
use Rattle.std.proofs.lemmas.Bool.{and_parts, cases_eq}
use Rattle.std.proofs.lemmas.Grind.{get_or-set_at}
use Rattle.std.proofs.lemmas.List.{get_or-set_other}
use Rattle.rc_base.specs.Lists.{with_name}
use Rattle.rc_base.specs.Pictures.{Picture}
use Rattle.rc_base.specs.Contexts.Context.{private_count}
use Rattle.rc_base.specs.Contexts.Elements.{values_of, scalar_count, element_count, image_element, no_image}
use Rattle.rc_base.specs.Contexts.Faults.{is_name, image_side_most}
use Rattle.rc_base.specs.Cluster.Parcels.{told_by}
use Rattle.rc_base.specs.declared.scene.Decl.{Decl}
use Rattle.rc_base.specs.declared.state.ElementSet.{ElementSet}
use Rattle.rc_base.specs.declared.state.ElementValue.{ElementValue}
use Rattle.rc_base.specs.declared.state.ElementValue.TheVariants as val
use Rattle.rc_base.specs.declared.state.State.{State}
use Rattle.order_model.specs.Board.{Kept, picture_in}
use Rattle.textures.specs.Images.{picture, texture_image}
use Rattle.textures.proofs.Names.{same_name, other_name, length_with_name}
use Rattle.tile_model.specs.Boards.{HasSets, image_by}
use Rattle.element_table.specs.Kinds.{has_kind, kind_of}
use Rattle.element_table.specs.Values.{is_image, is_value_of}
use Rattle.element_table.proofs.KindsOfValues.{scalar_given}
use Rattle.tile_server.specs.Kepts.{HasImage, IsFit, is_set_value}

-- ---- one set

-- what is_image says
record ImageFacts (edit w h : ℕ) (texels : List ℕ) : Type 0 where
  edited : 0 < edit
  whole : length texels ≡ 4 * (w * h)
  width : 0 < w
  height : 0 < h

image_facts : (edit w h : ℕ) (texels : List ℕ) → is_image edit w h texels ≡ true → ImageFacts edit w h texels
image_facts edit w h texels is =
    let parts = and_parts (nat_lt 0 edit && length texels == 4 * (w * h)) (is_name w image_side_most && is_name h image_side_most) is in
    let first = and_parts (nat_lt 0 edit) (length texels == 4 * (w * h)) parts.0 in
    let sides = and_parts (is_name w image_side_most) (is_name h image_side_most) parts.1 in
    record {
      edited = ltb-true 0 edit first.0;
      whole = eqb-true (length texels) (4 * (w * h)) first.1;
      width = ltb-true 0 w (and_parts (nat_lt 0 w) (nat_le w image_side_most) sides.0).0;
      height = ltb-true 0 h (and_parts (nat_lt 0 h) (nat_le h image_side_most) sides.1).0;
    }

written_image : (edit w h : ℕ) (texels : List ℕ) → 0 < edit → picture_in (val.Image edit w h texels) ≡ Some (picture w h texels)
written_image edit w h texels some = ap (λ (b : Bool). if b then None else Some (picture w h texels)) (ne_eqb edit 0 (λ e. absurd (omega arith)))

named_here : (xs : List (Option Picture)) (name : ℕ) (v : Option Picture) → 0 < name → name < suc (length xs) → texture_image (with_name xs name v) name ≡ v
named_here xs zero v some low = absurd (omega arith)
named_here xs (suc n) v some low = ap (λ (o : Option (Option Picture)). unwrap_or o None) (same_name xs n v (omega arith))

-- the value of an image, given to its texture
pub image_set : (d : Decl) (element edit w h : ℕ) (texels : List ℕ) (here : ℕ) (before now : List (Option Picture))
    → is_value_of d element (val.Image edit w h texels) ≡ true → length before ≡ private_count → image_element here ≡ element → 0 < here
    → now ≡ with_name before here (Some (picture w h texels)) → HasImage element (val.Image edit w h texels) before now
image_set d element edit w h texels here before now is count at low made = record { images = images }
  where
    parts : (has_kind (val.Image edit w h texels) (kind_of element) ≡ true) × ((nat_lt element element_count && is_image edit w h texels) ≡ true)
    parts = and_parts (has_kind (val.Image edit w h texels) (kind_of element)) (nat_lt element element_count && is_image edit w h texels) is

    rest : (nat_lt element element_count ≡ true) × (is_image edit w h texels ≡ true)
    rest = and_parts (nat_lt element element_count) (is_image edit w h texels) parts.1

    high : element < element_count
    high = ltb-true element element_count rest.0

    v : Option Picture
    v = Some (picture w h texels)

    images : (name : ℕ) → 0 < name → texture_image now name ≡ image_by name (texture_image before name) (record { element = element; value = val.Image edit w h texels })
    images name some = elim (cases_eq element (image_element name)) [
      | inl same ↦
          let this : here ≡ name = omega (arith, same, at) in
          rw made
          (rw (eq-eqb element (image_element name) same)
          (subst (λ (n : ℕ). texture_image (with_name before n v) name ≡ picture_in (val.Image edit w h texels)) (sym this)
          (named_here before name v some (omega (arith, high, same, count)) ∙ sym (written_image edit w h texels (image_facts edit w h texels rest.1).edited))))
      | inr ne ↦
          let other : name ≡ here → ⊥ = λ e. ne (omega (arith, at, e)) in
          rw made (rw (ne_eqb element (image_element name) ne) (ap (λ (o : Option (Option Picture)). unwrap_or o None) (other_name before here name v other)))
    ]

set_index : {A : Type 0} (xs : List A) (i e : ℕ) (v d : A) → e < length xs → slice_index_or (slice_set xs i v) e d ≡ (if i == e then v else slice_index_or xs e d)
set_index xs i e v d low = elim (cases_eq i e) [
  | inl same ↦ rw (eq-eqb i e same) (get_or-set_at xs i e v d (sym same) (rw same low))
  | inr ne ↦ rw (ne_eqb i e ne) (get_or-set_other xs i e v d (λ same. ne (sym same)))
]

value_count : (s : State) → length (values_of s) ≡ scalar_count
unfolding values_of
value_count s = refl

-- a set that is made in the values and in the images
pub one_set : (x : ElementSet) (s t : State) (before now : List (Option Picture)) → values_of t ≡ slice_set (values_of s) x.element x.value
    → HasImage x.element x.value before now
    → HasSets (x ∷ []) (record { state = s; image = texture_image before }) (record { state = t; image = texture_image now })
one_set x s t before now values images = record {
  values = λ e low.
      ap (λ (vs : List ElementValue). slice_index_or vs e no_image) values ∙ set_index (values_of s) x.element e x.value no_image (rw (value_count s) low);
  images = images.images;
}

-- ---- several sets

pub no_sets : (k : Kept) → HasSets [] k k
no_sets k = record { values = λ e low. refl; images = λ name some. refl }

pub first_and_rest : (x : ElementSet) (rest : List ElementSet) (a b c : Kept) → HasSets (x ∷ []) a b → HasSets rest b c → HasSets (x ∷ rest) a c
first_and_rest x rest a b c first after = record {
  values = λ e low. after.values e low ∙ ap (λ (v : ElementValue). fold (told_by e) v rest) (first.values e low);
  images = λ name some. after.images name some ∙ ap (λ (o : Option Picture). fold (image_by name) o rest) (first.images name some);
}

-- ---- what is kept stays fit to draw with

depth_value : (s : State) → slice_index_or (values_of s) 18 no_image ≡ val.Depth s.clear_depth
unfolding values_of
depth_value s = refl

binding_value : (s : State) → slice_index_or (values_of s) 20 no_image ≡ val.Pair s.binding
unfolding values_of
binding_value s = refl

image_sides : (d : Decl) (e : ℕ) (v : ElementValue) (p : Picture) → is_value_of d e v ≡ true → picture_in v ≡ Some p → (0 < p.w) × (0 < p.h)
image_sides d e (val.Image edit w h texels) p is at =
    let legal = (and_parts (has_kind (val.Image edit w h texels) (kind_of e)) (nat_lt e element_count && is_image edit w h texels) is).1 in
    let facts = image_facts edit w h texels (and_parts (nat_lt e element_count) (is_image edit w h texels) legal).1 in
    let same : Some (picture w h texels) ≡ Some p = sym (written_image edit w h texels facts.edited) ∙ at in
    let is_p : picture w h texels ≡ p = cc in
    subst (λ (q : Picture). (0 < q.w) × (0 < q.h)) is_p (facts.width, facts.height)
image_sides d e (val.Matrix m) p is at = absurd cc
image_sides d e (val.Area m) p is at = absurd cc
image_sides d e (val.Range m) p is at = absurd cc
image_sides d e (val.Flag m) p is at = absurd cc
image_sides d e (val.Code m) p is at = absurd cc
image_sides d e (val.Pair m) p is at = absurd cc
image_sides d e (val.Mask m) p is at = absurd cc
image_sides d e (val.Color m) p is at = absurd cc
image_sides d e (val.Depth m) p is at = absurd cc
image_sides d e (val.Mode m) p is at = absurd cc

module _ (d : Decl) (x : ElementSet) (a b : Kept) (is : is_set_value d x ≡ true) (made : HasSets (x ∷ []) a b) (fit : IsFit d a) where
  -- a property of an element's value, that each value that is set has too
  kept_value : (P : ElementValue → Type 0) (e : ℕ) → e < scalar_count → P (slice_index_or (values_of a.state) e no_image) → (x.element ≡ e → P x.value) → P (slice_index_or (values_of b.state) e no_image)
  kept_value P e low old new = elim (cases_eq x.element e) [
    | inl same ↦ subst P (sym (made.values e low ∙ ap (λ (t : Bool). if t then x.value else slice_index_or (values_of a.state) e no_image) (eq-eqb x.element e same))) (new same)
    | inr ne ↦ subst P (sym (made.values e low ∙ ap (λ (t : Bool). if t then x.value else slice_index_or (values_of a.state) e no_image) (ne_eqb x.element e ne))) old
  ]

  at_element : (e : ℕ) → x.element ≡ e → is_value_of d e x.value ≡ true
  at_element e same = subst (λ (n : ℕ). is_value_of d n x.value ≡ true) same is

  pub fit_set : IsFit d b
  unfolding kind_of
  fit_set = record {
    images = λ name p some at. elim (cases_eq x.element (image_element name)) [
      | inl same ↦
          let told : picture_in x.value ≡ Some p = sym (made.images name some ∙ ap (λ (t : Bool). if t then picture_in x.value else a.image name) (eq-eqb x.element (image_element name) same)) ∙ at in
          image_sides d x.element x.value p is told
      | inr ne ↦ fit.images name p some (sym (made.images name some ∙ ap (λ (t : Bool). if t then picture_in x.value else a.image name) (ne_eqb x.element (image_element name) ne)) ∙ at)
    ];
    depth = subst (λ (v : ElementValue). is_value_of d 18 v ≡ true) (depth_value b.state)
        (kept_value (λ v. is_value_of d 18 v ≡ true) 18 (omega arith) (subst (λ (v : ElementValue). is_value_of d 18 v ≡ true) (sym (depth_value a.state)) fit.depth) (at_element 18));
    binding = subst (λ (v : ElementValue). is_value_of d 20 v ≡ true) (binding_value b.state)
        (kept_value (λ v. is_value_of d 20 v ≡ true) 20 (omega arith) (subst (λ (v : ElementValue). is_value_of d 20 v ≡ true) (sym (binding_value a.state)) fit.binding) (at_element 20));
  }

-- with an image there are as many textures
pub same_count : (before now : List (Option Picture)) (name : ℕ) (v : Option Picture) → length before ≡ private_count → now ≡ with_name before name v
    → length now ≡ private_count
same_count before now name v count made = ap length made ∙ length_with_name before name v ∙ count

-- ---- a value that is no image's

untouched : (e : ℕ) (v : ElementValue) (before : List (Option Picture)) → e < scalar_count → HasImage e v before before
untouched e v before low = record {
  images = λ name some. sym (ap (λ (b : Bool). if b then picture_in v else texture_image before name) (ne_eqb e (image_element name) (λ same. absurd (omega arith))));
}

-- it changes no image
pub no_image_set : (d : Decl) (e : ℕ) (v : ElementValue) (before : List (Option Picture)) → is_value_of d e v ≡ true
    → ((edit w h : ℕ) (texels : List ℕ) → v ≡ val.Image edit w h texels → ⊥) → HasImage e v before before
no_image_set d e (val.Image edit w h texels) before is other = absurd (other edit w h texels refl)
no_image_set d e (val.Matrix m) before is other = untouched e _ before (scalar_given d e (val.Matrix m) is refl)
no_image_set d e (val.Area m) before is other = untouched e _ before (scalar_given d e (val.Area m) is refl)
no_image_set d e (val.Range m) before is other = untouched e _ before (scalar_given d e (val.Range m) is refl)
no_image_set d e (val.Flag m) before is other = untouched e _ before (scalar_given d e (val.Flag m) is refl)
no_image_set d e (val.Code m) before is other = untouched e _ before (scalar_given d e (val.Code m) is refl)
no_image_set d e (val.Pair m) before is other = untouched e _ before (scalar_given d e (val.Pair m) is refl)
no_image_set d e (val.Mask m) before is other = untouched e _ before (scalar_given d e (val.Mask m) is refl)
no_image_set d e (val.Color m) before is other = untouched e _ before (scalar_given d e (val.Color m) is refl)
no_image_set d e (val.Depth m) before is other = untouched e _ before (scalar_given d e (val.Depth m) is refl)
no_image_set d e (val.Mode m) before is other = untouched e _ before (scalar_given d e (val.Mode m) is refl)
