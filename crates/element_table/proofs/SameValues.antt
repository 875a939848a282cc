-- Equal values of scalar elements, and states with equal values.
use Rattle.std.proofs.Common.{◌≡◌, ℕ, ◌<◌, ◌==◌, ◌&&◌, Bool, true, false, List, [], ◌∷◌, refl, sym, ap, ◌∙◌, arith, eqb-true, eq-eqb, true≢false, ℤ}
use Rattle.std.specs.Prelude.{pos, nat_eq, not, slice_index_or}
use Rattle.std.specs.Ordering.{int_eq}
use Rattle.std.specs.Cmp.Lexicographic.{pointwise, same_text}
use Rattle.std.specs.Cmp.Rules.{signed_items}
use Rattle.std.proofs.lemmas.Bool.{and_parts}
use Rattle.std.proofs.lemmas.List.{get_or_default}
use Rattle.std.proofs.lemmas.Bool.Decides.{Decides-int_eq}
use Rattle.std.proofs.lemmas.Cmp.{nat_list_eq_equiv}
use Rattle.rc_base.specs.Contexts.Context.{ClientContext}
use Rattle.rc_base.specs.Contexts.Elements.{values_of, value_in, no_image, scalar_count, same_value, same_flag}
use Rattle.rc_base.specs.declared.command.Mat4.{Mat4}
use Rattle.rc_base.specs.declared.command.Rgba.{Rgba}
use Rattle.rc_base.specs.declared.state.ElementValue.{ElementValue}
use Rattle.rc_base.specs.declared.state.ElementValue.TheVariants as val
use Rattle.rc_base.specs.declared.state.State.{State}
use Rattle.element_table.specs.Kinds.{kind_of_value}
use Rattle.element_table.specs.declared.kind.ValueKind.{ValueKind}
use Rattle.element_table.proofs.Rows.{is_image, scalar_kind}
use Rattle.element_table.proofs.KindsOfValues.{kind_at}

-- ---- equal values

-- a scalar element's value
abbrev pub is_scalar : ElementValue → Bool
is_scalar v = not (is_image (kind_of_value v))

flag_is : (a b : Bool) → same_flag a b ≡ true → a ≡ b
flag_is true true e = refl
flag_is true false e = absurd (true≢false (sym e))
flag_is false true e = absurd (true≢false (sym e))
flag_is false false e = refl

flags_are : (xs ys : List Bool) → pointwise same_flag xs ys ≡ true → xs ≡ ys
flags_are [] [] e = refl
flags_are [] (y ∷ ys) e = absurd (true≢false (sym e))
flags_are (x ∷ xs) [] e = absurd (true≢false (sym e))
flags_are (x ∷ xs) (y ∷ ys) e =
    let b = and_parts (same_flag x y) (pointwise same_flag xs ys) e in
    let h = flag_is x y b.0 in
    let t = flags_are xs ys b.1 in cc

numbers_are : (xs ys : List ℕ) → pointwise nat_eq xs ys ≡ true → xs ≡ ys
numbers_are xs ys e = same_text xs ys (sym e)

signed_are : (xs ys : List ℤ) → pointwise int_eq xs ys ≡ true → xs ≡ ys
signed_are xs ys e = (signed_items xs ys).0 e

color_is : (a b : Rgba) → a.r ≡ b.r → a.g ≡ b.g → a.b ≡ b.b → a.a ≡ b.a → a ≡ b
color_is a b e f g h = λ i. record { r = e i; g = f i; b = g i; a = h i }

pub same_is : (v w : ElementValue) → is_scalar w ≡ true → same_value v w ≡ true → v ≡ w
unfolding same_value
same_is (val.Matrix a) (val.Matrix b) s e = ap (λ (m : List ℤ). val.Matrix (record { m = m })) (signed_are a.m b.m e)
same_is (val.Area a) (val.Area b) s e = ap (λ x. val.Area x) (signed_are a b e)
same_is (val.Range a) (val.Range b) s e = ap (λ x. val.Range x) (signed_are a b e)
same_is (val.Flag a) (val.Flag b) s e = ap (λ x. val.Flag x) (flag_is a b e)
same_is (val.Code a) (val.Code b) s e = ap (λ x. val.Code x) (eqb-true a b e)
same_is (val.Pair a) (val.Pair b) s e = ap (λ x. val.Pair x) (numbers_are a b e)
same_is (val.Mask a) (val.Mask b) s e = ap (λ x. val.Mask x) (flags_are a b e)
same_is (val.Color a) (val.Color b) s e =
    let h = and_parts (a.r == b.r && a.g == b.g) (a.b == b.b && a.a == b.a) e in
    let k = and_parts (a.r == b.r) (a.g == b.g) h.0 in
    let m = and_parts (a.b == b.b) (a.a == b.a) h.1 in
    ap (λ (c : Rgba). val.Color c) (color_is a b (eqb-true a.r b.r k.0) (eqb-true a.g b.g k.1) (eqb-true a.b b.b m.0) (eqb-true a.a b.a m.1))
same_is (val.Depth a) (val.Depth b) s e = ap (λ (z : ℤ). val.Depth z) ((Decides-int_eq a b).0 e)
same_is (val.Mode a) (val.Mode b) s e = ap (λ x. val.Mode x) (numbers_are a b e)
same_is v (val.Image f x g us) s e = absurd (true≢false (sym s))
same_is v w s e = absurd (true≢false (sym e))

flags_same : (xs : List Bool) → pointwise same_flag xs xs ≡ true
flags_same [] = refl
flags_same (true ∷ xs) = flags_same xs
flags_same (false ∷ xs) = flags_same xs

-- each value is the same as itself
pub same_itself : (v : ElementValue) → same_value v v ≡ true
unfolding same_value
same_itself (val.Matrix a) = (signed_items a.m a.m).1 refl
same_itself (val.Area a) = (signed_items a a).1 refl
same_itself (val.Range a) = (signed_items a a).1 refl
same_itself (val.Flag true) = refl
same_itself (val.Flag false) = refl
same_itself (val.Code a) = eq-eqb a a refl
same_itself (val.Pair a) = nat_list_eq_equiv.refl a
same_itself (val.Mask a) = flags_same a
same_itself (val.Color a) = rw (eq-eqb a.r a.r refl, eq-eqb a.g a.g refl, eq-eqb a.b a.b refl, eq-eqb a.a a.a refl) refl
same_itself (val.Depth a) = (Decides-int_eq a a).1 refl
same_itself (val.Mode a) = nat_list_eq_equiv.refl a
same_itself (val.Image edit w h texels) = eq-eqb edit edit refl

-- ---- the values of a state

pub scalar_at : (s : State) (e : ℕ) → e < scalar_count → is_scalar (slice_index_or (values_of s) e no_image) ≡ true
scalar_at s e low = ap (λ (k : ValueKind). not (is_image k)) (kind_at s e) ∙ scalar_kind e low

-- a scalar element's value in a context is that of the state
pub scalar_value : (x : ClientContext) (e : ℕ) → e < scalar_count → value_in x e ≡ slice_index_or (values_of x.state) e no_image
unfolding values_of
scalar_value x e low = get_or_default (values_of x.state) e _ no_image (omega arith)

pub value_is_scalar : (x : ClientContext) (e : ℕ) → e < scalar_count → is_scalar (value_in x e) ≡ true
value_is_scalar x e low = ap (λ (v : ElementValue). is_scalar v) (scalar_value x e low) ∙ scalar_at x.state e low

-- what a value holds, by its kind
abbrev matrix_in : ElementValue → Mat4
matrix_in (val.Matrix m) = m
matrix_in v = record { m = [] }

abbrev numbers_in : ElementValue → List ℤ
numbers_in (val.Area a) = a
numbers_in (val.Range a) = a
numbers_in v = []

abbrev flag_in : ElementValue → Bool
flag_in (val.Flag a) = a
flag_in v = false

abbrev code_in : ElementValue → ℕ
code_in (val.Code a) = a
code_in v = 0

abbrev codes_in : ElementValue → List ℕ
codes_in (val.Pair a) = a
codes_in (val.Mode a) = a
codes_in v = []

abbrev flags_in : ElementValue → List Bool
flags_in (val.Mask a) = a
flags_in v = []

abbrev color_in : ElementValue → Rgba
color_in (val.Color a) = a
color_in v = record { r = 0; g = 0; b = 0; a = 0 }

abbrev depth_in : ElementValue → ℤ
depth_in (val.Depth a) = a
depth_in v = pos 0

-- two states with the same values are the same
pub state_is : (s t : State) → ((e : ℕ) → e < scalar_count → slice_index_or (values_of s) e no_image ≡ slice_index_or (values_of t) e no_image) → s ≡ t
unfolding values_of
state_is s t h = λ i. record {
  modelview = ap matrix_in (h 0 (omega arith)) i;
  projection = ap matrix_in (h 1 (omega arith)) i;
  viewport = ap numbers_in (h 2 (omega arith)) i;
  depth_range = ap numbers_in (h 3 (omega arith)) i;
  scissor_on = ap flag_in (h 4 (omega arith)) i;
  scissor = ap numbers_in (h 5 (omega arith)) i;
  cull_on = ap flag_in (h 6 (omega arith)) i;
  cull_face = ap code_in (h 7 (omega arith)) i;
  front_face = ap code_in (h 8 (omega arith)) i;
  alpha_on = ap flag_in (h 9 (omega arith)) i;
  alpha = ap codes_in (h 10 (omega arith)) i;
  depth_on = ap flag_in (h 11 (omega arith)) i;
  depth_func = ap code_in (h 12 (omega arith)) i;
  depth_mask = ap flag_in (h 13 (omega arith)) i;
  blend_on = ap flag_in (h 14 (omega arith)) i;
  blend = ap codes_in (h 15 (omega arith)) i;
  color_mask = ap flags_in (h 16 (omega arith)) i;
  clear_color = ap color_in (h 17 (omega arith)) i;
  clear_depth = ap depth_in (h 18 (omega arith)) i;
  texture_on = ap flag_in (h 19 (omega arith)) i;
  binding = ap codes_in (h 20 (omega arith)) i;
  tex_mode = ap codes_in (h 21 (omega arith)) i;
}

pub values_are_state : (s t : State) → values_of s ≡ values_of t → s ≡ t
values_are_state s t same = state_is s t (λ e low. ap (λ (vs : List ElementValue). slice_index_or vs e no_image) same)
