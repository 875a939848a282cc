-- Which element a command that is carried out sets.
use Rattle.std.proofs.Common.{◌≡◌, ℕ, zero, suc, ◌+◌, ◌-◌, ◌<◌, ◌≤◌, Bool, true, false, List, [], ◌∷◌, ◌++◌, set, replicate, Some, inl, inr, refl, sym, ap, subst, ◌∙◌, arith}
use Rattle.std.specs.Prelude.{◌==◌, ◌≢◌, None, if◌then◌else◌, slice_index_or, unwrap_or}
use Rattle.std.proofs.lemmas.Bool.{cases_lt}
use Rattle.std.specs.declared.option.Option.{Option}
use Rattle.std.specs.Option.{option_map_or}
use Rattle.std.proofs.lemmas.List.{get_or_default, get_or-set_other, get_or_past}
use Rattle.rc_base.specs.Numbers.{product_of}
use Rattle.rc_base.specs.Pictures.{Picture, with_part}
use Rattle.rc_base.specs.Lists.{at_name}
use Rattle.rc_base.specs.Contexts.Context.{ClientContext, default_context, identity, top, below, private_image, edit_of}
use Rattle.rc_base.specs.Contexts.Faults.{fault_of}
use Rattle.rc_base.specs.Contexts.Elements.{values_of, value_in, default_value, no_image, image_value, image_element, scalar_count, marks, matrix_element, capability_element}
use Rattle.rc_base.specs.Contexts.Issue.{carried_out, issued, issued_next, refused, command_at, context_after, with_state, with_top, with_below, with_capability, with_image, last_of, front_of}
use Rattle.rc_base.specs.declared.command.Command.{Command}
use Rattle.rc_base.specs.declared.command.Command.TheVariants as cmd
use Rattle.rc_base.specs.declared.command.Mat4.{Mat4}
use Rattle.rc_base.specs.declared.command.Part.{Part}
use Rattle.rc_base.specs.declared.state.State.{State}
use Rattle.rc_base.specs.declared.state.ElementValue.{ElementValue}
use Rattle.rc_base.specs.declared.state.ElementValue.TheVariants as val
use Rattle.rc_base.specs.declared.state.Fault.{Fault}
use Rattle.rc_base.specs.declared.scene.Scene.{Scene}
use Rattle.element_table.proofs.Capabilities.{capability_turned}
use Rattle.gl_context.specs.Elements.{SetsAt}
use Rattle.textures.proofs.Names.{other_name}
use Rattle.gl_context.proofs.ImagesGoOn.{SameTextures, top_same, below_same_textures, pop_same}

-- a state is as before, or the element that is marked has another value
data IsSet (before after : State) (marked : Option ℕ) : Type 0 where
  Same : after ≡ before → IsSet before after marked
  One : (k : ℕ) (v : ElementValue) → marked ≡ Some k → values_of after ≡ set (values_of before) k v → IsSet before after marked

capability_set : (s : State) (k : ℕ) (on : Bool) → IsSet s (with_capability s k on) (Some (capability_element k))
capability_set s k on = One (capability_element k) (val.Flag on) refl (capability_turned s k on).values

top_set : (x : ClientContext) (m : Mat4) → IsSet x.state (with_top x m).state (Some (matrix_element x.matrix_mode))
unfolding values_of
top_set x m = by (x.matrix_mode == 0)
  where
    by : (b : Bool) → IsSet x.state (if b then with_state x (record x.state { modelview = m }) else with_state x (record x.state { projection = m })).state (Some (if b then 0 else 1))
    by true = One 0 _ refl refl
    by false = One 1 _ refl refl

below_same : (x : ClientContext) (ms : List Mat4) → (with_below x ms).state ≡ x.state
below_same x ms = by (x.matrix_mode == 0)
  where
    by : (b : Bool) → (if b then record x { modelviews = ms } else record x { projections = ms }).state ≡ x.state
    by true = refl
    by false = refl

part_same : (x : ClientContext) (part : Part) (o : Option Picture) → (option_map_or (λ (image : Picture). with_image x part.name (with_part image part)) o x).state ≡ x.state
part_same x part None = refl
part_same x part (Some image) = refl

set_by : (x : ClientContext) (c : Command) → IsSet x.state (carried_out x c).state (marks c x.matrix_mode)
unfolding values_of
set_by x (cmd.Begin kind) = Same refl
set_by x cmd.End = Same refl
set_by x (cmd.Vertex p) = Same refl
set_by x (cmd.Color c) = Same refl
set_by x (cmd.TexCoord u v) = Same refl
set_by x (cmd.Enable capability) = capability_set x.state capability true
set_by x (cmd.Disable capability) = capability_set x.state capability false
set_by x (cmd.MatrixMode kind) = Same refl
set_by x cmd.LoadIdentity = top_set x identity
set_by x (cmd.LoadMatrix m) = top_set x m
set_by x (cmd.MultMatrix m) = top_set x (record { m = product_of (top x).m m.m })
set_by x cmd.PushMatrix = Same (below_same x (below x ++ top x ∷ []))
set_by x cmd.PopMatrix = subst (λ (s : State). IsSet x.state s (Some (matrix_element x.matrix_mode))) (sym (below_same (with_top x (last_of (below x))) (front_of (below x)))) (top_set x (last_of (below x)))
set_by x (cmd.Viewport area) = One 2 _ refl refl
set_by x (cmd.DepthRange near far) = One 3 _ refl refl
set_by x (cmd.Scissor area) = One 5 _ refl refl
set_by x (cmd.AlphaFunc function reference) = One 10 _ refl refl
set_by x (cmd.DepthFunc function) = One 12 _ refl refl
set_by x (cmd.DepthMask flag) = One 13 _ refl refl
set_by x (cmd.BlendFunc source destination) = One 15 _ refl refl
set_by x (cmd.ColorMask flags) = One 16 _ refl refl
set_by x (cmd.ClearColor color) = One 17 _ refl refl
set_by x (cmd.ClearDepth depth) = One 18 _ refl refl
set_by x (cmd.Clear mask) = Same refl
set_by x (cmd.CullFace face) = One 7 _ refl refl
set_by x (cmd.FrontFace direction) = One 8 _ refl refl
set_by x (cmd.BindTexture kind name) = One 20 _ refl refl
set_by x (cmd.TexEnv environment) = One 21 _ refl refl
set_by x (cmd.TexWrap along_s along_t) = One 21 _ refl refl
set_by x (cmd.TexImage name wide high bytes) = Same refl
set_by x (cmd.TexPart part) = Same (part_same x part (private_image x part.name))
set_by x (cmd.SharedImage part) = Same refl
set_by x (cmd.Barrier name) = Same refl
set_by x (cmd.SemP name) = Same refl
set_by x (cmd.SemV name) = Same refl
set_by x cmd.Swap = Same refl

keeps_others : (before after : State) (marked : Option ℕ) (e : ℕ) (d d' : ElementValue) → IsSet before after marked → e < scalar_count → marked ≢ Some e
    → slice_index_or (values_of after) e d ≡ slice_index_or (values_of before) e d'
unfolding values_of
keeps_others before after marked e d d' (Same same) lt other = ap (λ (s : State). slice_index_or (values_of s) e d) same ∙ get_or_default (values_of before) e d d' lt
keeps_others before after marked e d d' (One k v is changed) lt other =
    ap (λ (l : List ElementValue). slice_index_or l e d) changed
    ∙ get_or-set_other (values_of before) k e v d (λ same. other (is ∙ ap (λ (j : ℕ). Some j) (sym same)))
    ∙ get_or_default (values_of before) e d d' lt

sets_one_scalar : (x : ClientContext) (c : Command) (e : ℕ) → e < scalar_count → marks c x.matrix_mode ≢ Some e → value_in (carried_out x c) e ≡ value_in x e
sets_one_scalar x c e lt other = keeps_others x.state (carried_out x c).state (marks c x.matrix_mode) e _ _ (set_by x c) lt other

-- ---- images

-- an image and its edit number are as before, or the element that is marked is that of another texture
abbrev KeepsImage : ClientContext → ClientContext → ℕ → Type 0
KeepsImage x y name = (edit_of y name ≡ edit_of x name) × (private_image y name ≡ private_image x name)

abbrev image_of_element : ClientContext → ℕ → ElementValue
image_of_element x name = option_map_or (image_value (edit_of x name)) (private_image x name) no_image

by_same_textures : (x y : ClientContext) (name : ℕ) → SameTextures x y → KeepsImage x y name
by_same_textures x y name s = (ap (λ (l : List ℕ). unwrap_or (at_name l name) 0) s.1, ap (λ (l : List (Option Picture)). unwrap_or (at_name l name) None) s.0)

other_image : (x : ClientContext) (written name : ℕ) (p : Picture) → (name ≡ written → ⊥) → KeepsImage x (with_image x written p) name
other_image x written name p ne = (
  ap (λ (o : Option ℕ). unwrap_or o 0) (other_name x.edits written name (edit_of x written + 1) ne),
  ap (λ (o : Option (Option Picture)). unwrap_or o None) (other_name x.images written name (Some p) ne),
)

other_part : (x : ClientContext) (part : Part) (name : ℕ) (o : Option Picture) → (name ≡ part.name → ⊥)
    → KeepsImage x (option_map_or (λ (image : Picture). with_image x part.name (with_part image part)) o x) name
other_part x part name None ne = (refl, refl)
other_part x part name (Some image) ne = other_image x part.name name (with_part image part) ne

-- a texture whose element isn't the one that is marked has another name
another : (written name : ℕ) → Some (image_element written) ≢ Some (image_element name) → name ≡ written → ⊥
another written name other same = other (ap (λ (k : ℕ). Some (image_element k)) (sym same))

keeps_image : (x : ClientContext) (c : Command) (name : ℕ) → marks c x.matrix_mode ≢ Some (image_element name) → KeepsImage x (carried_out x c) name
keeps_image x (cmd.TexImage written wide high bytes) name other = other_image x written name (record { w = wide; h = high; texels = bytes }) (another written name other)
keeps_image x (cmd.TexPart part) name other = other_part x part name (private_image x part.name) (another part.name name other)
keeps_image x cmd.LoadIdentity name other = by_same_textures x (carried_out x cmd.LoadIdentity) name (top_same x identity)
keeps_image x (cmd.LoadMatrix m) name other = by_same_textures x (carried_out x (cmd.LoadMatrix m)) name (top_same x m)
keeps_image x (cmd.MultMatrix m) name other = by_same_textures x (carried_out x (cmd.MultMatrix m)) name (top_same x (record { m = product_of (top x).m m.m }))
keeps_image x cmd.PushMatrix name other = by_same_textures x (carried_out x cmd.PushMatrix) name (below_same_textures x (below x ++ top x ∷ []))
keeps_image x cmd.PopMatrix name other = by_same_textures x (carried_out x cmd.PopMatrix) name (pop_same x (last_of (below x)) (front_of (below x)))
keeps_image x c name other = (refl, refl)

-- behind the scalar elements there are the images
pub image_element_is : (x : ClientContext) (name : ℕ) → 0 < name → value_in x (image_element name) ≡ image_of_element x name
unfolding values_of
image_element_is x name some =
    let e : image_element name + 1 - scalar_count ≡ name = omega (arith, some) in
    get_or_past (values_of x.state) (image_element name) _ (omega (arith, some)) ∙ ap (image_of_element x) e

sets_one_image : (x : ClientContext) (c : Command) (name : ℕ) → 0 < name → marks c x.matrix_mode ≢ Some (image_element name)
    → value_in (carried_out x c) (image_element name) ≡ value_in x (image_element name)
sets_one_image x c name some other =
    let k = keeps_image x c name other in
    image_element_is (carried_out x c) name some
    ∙ ap (λ (n : ℕ). option_map_or (image_value n) (private_image (carried_out x c) name) no_image) k.0
    ∙ ap (λ (o : Option Picture). option_map_or (image_value (edit_of x name)) o no_image) k.1
    ∙ sym (image_element_is x name some)

pub sets_one : (x : ClientContext) (c : Command) (e : ℕ) → marks c x.matrix_mode ≢ Some e → value_in (carried_out x c) e ≡ value_in x e
sets_one x c e other = elim (cases_lt e scalar_count) [
  | inl scalar ↦ sets_one_scalar x c e scalar other
  | inr image ↦
      let name = e + 1 - scalar_count in
      let is : image_element name ≡ e = omega (arith, image) in
      subst (λ (k : ℕ). value_in (carried_out x c) k ≡ value_in x k) is
      (sets_one_image x c name (omega (arith, image)) (λ marked. other (marked ∙ ap (λ (k : ℕ). Some k) is)))
]

-- ---- along a stream

by_fault : (x : ClientContext) (place : ℕ) (c : Command) (e : ℕ) (f : Option Fault) → fault_of x c ≡ f
    → (fault_of x c ≡ None → marks c x.matrix_mode ≢ Some e) → value_in (option_map_or (refused x place) f (carried_out x c)) e ≡ value_in x e
by_fault x place c e None is other = sets_one x c e (other is)
by_fault x place c e (Some f) is other = refl

by_command : (x : ClientContext) (place : ℕ) (o : Option Command) (e : ℕ)
    → ((c : Command) → o ≡ Some c → fault_of x c ≡ None → marks c x.matrix_mode ≢ Some e) → value_in (issued_next x place o) e ≡ value_in x e
unfolding issued
by_command x place None e other = refl
by_command x place (Some c) e other = by_fault x place c e (fault_of x c) refl (other c refl)

kept_by : (scene : Scene) (client n e : ℕ) → (SetsAt scene client n e → ⊥)
    → value_in (context_after scene client (suc n)) e ≡ value_in (context_after scene client n) e
unfolding context_after
kept_by scene client n e none = by_command (context_after scene client n) n (command_at scene client n) e (λ c is passes marked. none (c, is, passes, marked))

pub keeps_last_set : (scene : Scene) (client a n e : ℕ) → ((k : ℕ) → a ≤ k → k < a + n → SetsAt scene client k e → ⊥)
    → value_in (context_after scene client (a + n)) e ≡ value_in (context_after scene client a) e
keeps_last_set scene client a zero e none = let same : a + 0 ≡ a = omega arith in ap (λ (k : ℕ). value_in (context_after scene client k) e) same
keeps_last_set scene client a (suc n) e none =
    let same : a + suc n ≡ suc (a + n) = omega arith in
    ap (λ (k : ℕ). value_in (context_after scene client k) e) same
    ∙ kept_by scene client (a + n) e (none (a + n) (omega arith) (omega arith))
    ∙ keeps_last_set scene client a n e (λ k from to. none k from (omega (arith, to)))

pub no_images : (n name : ℕ) → unwrap_or (at_name (replicate {A = Option Picture} n None) name) None ≡ None
no_images n zero = refl
no_images zero (suc k) = refl
no_images (suc n) (suc zero) = refl
no_images (suc n) (suc (suc k)) = no_images n (suc k)

pub begins_with_defaults : (scene : Scene) (client e : ℕ) → value_in (context_after scene client 0) e ≡ default_value scene.decl e
unfolding context_after default_context
begins_with_defaults scene client e =
    let x = default_context scene.decl in
    ap (λ (o : Option Picture). slice_index_or (values_of x.state) e (option_map_or (image_value (edit_of x (e + 1 - scalar_count))) o no_image)) (no_images 64 (e + 1 - scalar_count))
