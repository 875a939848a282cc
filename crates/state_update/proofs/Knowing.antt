-- The sets before a parcel, from what is kept of its tile.
use Rattle.std.proofs.Common.{◌≡◌, ℕ, zero, suc, ◌<◌, ◌≤◌, ◌==◌, ◌&&◌, Bool, true, false, List, [], ◌∷◌, ◌++◌, replicate, Some, None, refl, sym, ap, ap₂, ◌∙◌, arith, true≢false}
use Rattle.std.specs.Prelude.{is_some, if◌then◌else◌, slice_get, unwrap_or}
use Rattle.std.specs.List.{flat_map, range_with_len}
use Rattle.std.specs.Option.{option_map_or}
use Rattle.std.specs.declared.option.Option.{Option}
use Rattle.std.proofs.lemmas.Grind.{flat_map-append}
use Rattle.std.proofs.lemmas.List.{append-nil, get_or_default, length-replicate}
use Rattle.rc_base.specs.Lists.{at_name}
use Rattle.rc_base.specs.Pictures.{Picture}
use Rattle.rc_base.specs.Contexts.Context.{ClientContext, private_count, private_image, edit_of}
use Rattle.rc_base.specs.Contexts.Elements.{values_of, value_in, default_value, scalar_count, image_element, no_image, same_value}
use Rattle.rc_base.specs.Cluster.Parcels.{sampled_images, set_of, sets_for}
use Rattle.rc_base.specs.Drawing.Texel.{bound_kind, bound_name}
use Rattle.rc_base.specs.declared.scene.Decl.{Decl}
use Rattle.rc_base.specs.declared.state.ElementSet.{ElementSet}
use Rattle.rc_base.specs.declared.state.ElementValue.{ElementValue}
use Rattle.gl_context.proofs.OneElement.{image_element_is}
use Rattle.scene_lemmas.proofs.Contexts.{default_is_no_image}
use Rattle.state_update.specs.declared.told.Told.{Told}
use Rattle.state_update.specs.Knowledge.{Agrees, Knows, IsImageOf, scalar_value, edit_told, image_examined, image_of, image_set, image_sets, scalar_set, sets_by, first_told}
use Rattle.state_update.proofs.InTurn.{same_in_turn}
use Rattle.state_update.proofs.SameValues.{image_decides}

-- ---- at first

zeros : (n name : ℕ) → ◌≡◌ {A = ℕ} (unwrap_or (at_name (replicate {A = ℕ} n 0) name) 0) 0
zeros n zero = refl
zeros zero (suc k) = refl
zeros (suc n) (suc zero) = refl
zeros (suc n) (suc (suc k)) = zeros n (suc k)

first_image : (d : Decl) (name : ℕ) → 0 < name → IsImageOf (default_value d (image_element name)) (edit_told (first_told d) name)
first_image d name some = rw (default_is_no_image d name some, zeros private_count name) refl

agrees_at_first : (d : Decl) → Agrees (first_told d) (default_value d)
agrees_at_first d = record {
  names = length-replicate {A = ℕ} private_count 0;
  scalars = λ e lt. refl;
  images = λ name some most. first_image d name some;
}

one_of_many : {A : Type 0} (n k : ℕ) (a : A) → k < n → slice_get (replicate n a) k ≡ Some a
one_of_many zero k a lt = absurd (omega arith)
one_of_many (suc n) zero a lt = refl
one_of_many (suc n) (suc k) a lt = one_of_many n k a (omega arith)

pub knows_at_first : (d : Decl) (n tile : ℕ) (bits : List ℕ) → tile < n → Knows (record { told = replicate n (first_told d); bits = bits }) tile (default_value d)
knows_at_first d n tile bits lt = record { kept = first_told d; is = one_of_many n tile (first_told d) lt; agrees = agrees_at_first d }

-- ---- the image that a parcel examines

one_image : (a b c d : Bool) (n : ℕ)
    → (if a then (if b && (c && d) then image_element n ∷ [] else []) else [])
    ≡ option_map_or (λ (k : ℕ). image_element k ∷ []) (if ((a && b) && c) && d then Some n else None) []
one_image false b c d n = refl
one_image true false c d n = refl
one_image true true false d n = refl
one_image true true true false n = refl
one_image true true true true n = refl

pub image_is_examined : (x : ClientContext) (draws : Bool)
    → (if draws then sampled_images x else []) ≡ option_map_or (λ (k : ℕ). image_element k ∷ []) (image_examined x draws) []
image_is_examined x draws =
    one_image draws x.state.texture_on (bound_kind x.state == 0) (is_some (private_image x (bound_name x.state))) (bound_name x.state)

-- an image that is examined is there
pub record IsThere (x : ClientContext) (name : ℕ) : Type 0 where
  pub image : Picture
  pub is : private_image x name ≡ Some image

has_one : (x : ClientContext) (name : ℕ) (o : Option Picture) → private_image x name ≡ o → is_some o ≡ true → IsThere x name
has_one x name (Some p) is some = record { image = p; is = is }
has_one x name None is some = absurd (true≢false (sym some))

by_tests : (x : ClientContext) (a b : Bool) (n name : ℕ) → is_some (private_image x n) ≡ b → (if a && b then Some n else None) ≡ Some name → IsThere x name
by_tests x true true n name some is = let same : n ≡ name = cc in has_one x name (private_image x name) refl (rw (sym same) some)
by_tests x true false n name some is = absurd cc
by_tests x false b n name some is = absurd cc

pub is_there : (x : ClientContext) (draws : Bool) (name : ℕ) → image_examined x draws ≡ Some name → IsThere x name
is_there x draws name is =
    by_tests x ((draws && x.state.texture_on) && bound_kind x.state == 0) (is_some (private_image x (bound_name x.state))) (bound_name x.state) name refl is

-- ---- the sets

pub scalar_in_context : (x : ClientContext) (e : ℕ) → e < scalar_count → value_in x e ≡ scalar_value x.state e
unfolding values_of
scalar_in_context x e lt = get_or_default (values_of x.state) e _ no_image lt

abbrev set_by : ℕ → ElementValue → ElementValue → List ElementSet
set_by e told now = if same_value told now then [] else record { element = e; value = now } ∷ []

scalar_set_is : (t : Told) (values : ℕ → ElementValue) (x : ClientContext) (e : ℕ) → Agrees t values → e < scalar_count → set_of values x e ≡ scalar_set t.state x.state e
scalar_set_is t values x e a lt = ap₂ (set_by e) (a.scalars e lt) (scalar_in_context x e lt)

pub image_in_context : (x : ClientContext) (name : ℕ) → 0 < name → value_in x (image_element name) ≡ image_of x name
image_in_context x name some = image_element_is x name some

-- the image that is there is the same where its edit number is
pub image_same : (t : Told) (values : ℕ → ElementValue) (x : ClientContext) (name : ℕ) → Agrees t values → 0 < name → name ≤ private_count → IsThere x name
    → same_value (values (image_element name)) (value_in x (image_element name)) ≡ (edit_told t name == edit_of x name)
image_same t values x name a some most there =
    rw (image_in_context x name some, there.is)
    (image_decides (values (image_element name)) (edit_told t name) (edit_of x name) there.image.w there.image.h there.image.texels (a.images name some most))

image_set_is : (t : Told) (values : ℕ → ElementValue) (x : ClientContext) (name : ℕ) → Agrees t values → 0 < name → name ≤ private_count → IsThere x name
    → set_of values x (image_element name) ≡ image_set t x name
image_set_is t values x name a some most there =
    ap₂ (λ (same : Bool) (now : ElementValue). if same then [] else record { element = image_element name; value = now } ∷ [])
    (image_same t values x name a some most there) (image_in_context x name some)

images_are : (t : Told) (values : ℕ → ElementValue) (x : ClientContext) (image : Option ℕ) → Agrees t values
    → ((name : ℕ) → image ≡ Some name → (0 < name) × (name ≤ private_count) × IsThere x name)
    → flat_map (set_of values x) (option_map_or (λ (k : ℕ). image_element k ∷ []) image []) ≡ image_sets t x image
images_are t values x None a there = refl
images_are t values x (Some name) a there =
    let h = there name refl in append-nil _ ∙ image_set_is t values x name a h.0 h.1 h.2

pub sets_are : (t : Told) (values : ℕ → ElementValue) (x : ClientContext) (draws : Bool) → Agrees t values
    → ((name : ℕ) → image_examined x draws ≡ Some name → (0 < name) × (name ≤ private_count))
    → sets_by t x (image_examined x draws) ≡ sets_for values x draws
unfolding sets_by sets_for
sets_are t values x draws a named =
    let images = option_map_or (λ (k : ℕ). image_element k ∷ []) (image_examined x draws) [] in
    sym (
    ap (λ (l : List ℕ). flat_map (set_of values x) (range_with_len 0 scalar_count ++ l)) (image_is_examined x draws)
    ∙ flat_map-append (set_of values x) (range_with_len 0 scalar_count) images
    ∙ ap₂ (λ l r. l ++ r)
    (same_in_turn (set_of values x) (scalar_set t.state x.state) 0 scalar_count (λ k from to. scalar_set_is t values x k a (omega (arith, to))))
    (images_are t values x (image_examined x draws) a (λ name is. let h = named name is in (h.0, h.1, is_there x draws name is)))
    )
