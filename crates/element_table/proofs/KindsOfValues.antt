-- The kinds of values, and of a state's elements.
use Rattle.std.proofs.Common.{◌≡◌, ℕ, zero, suc, ◌<◌, ◌≤◌, true, false, List, [], ◌∷◌, refl, sym, ap, ◌∙◌, true≢false, map, inl, inr}
use Rattle.std.specs.Prelude.{slice_index_or}
use Rattle.std.proofs.lemmas.Bool.{and_parts, cases_lt}
use Rattle.rc_base.specs.Contexts.Elements.{values_of, no_image, scalar_count}
use Rattle.rc_base.specs.declared.scene.Decl.{Decl}
use Rattle.rc_base.specs.declared.state.ElementValue.{ElementValue}
use Rattle.rc_base.specs.declared.state.ElementValue.TheVariants as val
use Rattle.rc_base.specs.declared.state.State.{State}
use Rattle.element_table.specs.Kinds.{has_kind, kind_of, kind_of_value}
use Rattle.element_table.specs.Values.{is_value_of, is_legal}
use Rattle.element_table.specs.declared.kind.ValueKind.{ValueKind}
use Rattle.element_table.proofs.Rows.{is_image, image_kind, image_rows}
use Rattle.element_table.specs.declared.kind.ValueKind.TheVariants.{Matrix, Area, Range, Flag, Code, Pair, Mask, Color, Depth, Mode, Image}

-- a value has one kind
pub kind_is : (v : ElementValue) (k : ValueKind) → has_kind v k ≡ true → kind_of_value v ≡ k
kind_is (val.Matrix m) Matrix h = refl
kind_is (val.Area area) Area h = refl
kind_is (val.Range range) Range h = refl
kind_is (val.Flag flag) Flag h = refl
kind_is (val.Code code) Code h = refl
kind_is (val.Pair pair) Pair h = refl
kind_is (val.Mask mask) Mask h = refl
kind_is (val.Color color) Color h = refl
kind_is (val.Depth depth) Depth h = refl
kind_is (val.Mode mode) Mode h = refl
kind_is (val.Image edit w h texels) Image e = refl
kind_is v k h = absurd (true≢false (sym h))

-- a value that an element can have is of its kind
pub kind_of_given : (d : Decl) (e : ℕ) (v : ElementValue) → is_value_of d e v ≡ true → kind_of_value v ≡ kind_of e
kind_of_given d e v is = kind_is v (kind_of e) (and_parts (has_kind v (kind_of e)) (is_legal d e v) is).0

kinds_at : (vs : List ElementValue) (e : ℕ) → kind_of_value (slice_index_or vs e no_image) ≡ slice_index_or (map kind_of_value vs) e Image
kinds_at [] e = refl
kinds_at (v ∷ vs) zero = refl
kinds_at (v ∷ vs) (suc e) = kinds_at vs e

-- each value of a state is of its element's kind
pub kind_at : (s : State) (e : ℕ) → kind_of_value (slice_index_or (values_of s) e no_image) ≡ kind_of e
unfolding values_of kind_of
kind_at s e = kinds_at (values_of s) e

-- an element that can have a value which is no image is a scalar one
pub scalar_given : (d : Decl) (e : ℕ) (v : ElementValue) → is_value_of d e v ≡ true → is_image (kind_of_value v) ≡ false → e < scalar_count
scalar_given d e v is other = elim (cases_lt e scalar_count) [
  | inl low ↦ low
  | inr past ↦ absurd (true≢false (sym (ap is_image (kind_of_given d e v is ∙ image_kind e past)) ∙ other))
]

-- and one that can have an image is none
pub image_given : (d : Decl) (e edit w h : ℕ) (texels : List ℕ) → is_value_of d e (val.Image edit w h texels) ≡ true → scalar_count ≤ e
image_given d e edit w h texels is = image_rows e (sym (kind_of_given d e (val.Image edit w h texels) is))
