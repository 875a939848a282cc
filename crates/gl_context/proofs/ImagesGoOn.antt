-- How private images and their edit numbers go on.
use Rattle.std.proofs.Common.{◌≡◌, ℕ, zero, suc, ◌+◌, ◌-◌, ◌<◌, ◌≤◌, List, [], ◌∷◌, ◌++◌, length, replicate, Some, None, ◌⊎◌, inl, inr, refl, sym, ap, ◌∙◌, subst, arith}
use Rattle.std.specs.Prelude.{◌==◌, unwrap_or}
use Rattle.std.specs.declared.option.Option.{Option}
use Rattle.std.specs.Option.{option_map_or}
use Rattle.std.proofs.lemmas.Bool.{cases_lt, cases_Bool}
use native.Mathlib.Decide.{ℕ_discrete}
use mathlib.Core.Logic.{dite}
use Rattle.rc_base.specs.Lists.{at_name, with_name}
use Rattle.rc_base.specs.Pictures.{Picture, with_part}
use Rattle.rc_base.specs.Numbers.{product_of}
use Rattle.rc_base.specs.Contexts.Context.{ClientContext, default_context, identity, top, below, private_image, edit_of, private_count}
use Rattle.rc_base.specs.Contexts.Faults.{fault_of}
use Rattle.rc_base.specs.Contexts.Issue.{issued, issued_next, carried_out, refused, command_at, context_after, with_top, with_below, with_image, last_of, front_of}
use Rattle.rc_base.specs.declared.command.Command.{Command}
use Rattle.rc_base.specs.declared.command.Command.TheVariants as cmd
use Rattle.rc_base.specs.declared.command.Mat4.{Mat4}
use Rattle.rc_base.specs.declared.command.Part.{Part}
use Rattle.rc_base.specs.declared.scene.Scene.{Scene}
use Rattle.rc_base.specs.declared.state.Fault.{Fault}
use Rattle.textures.proofs.Names.{other_name, same_name, name_past, length_with_name}

-- the images and the edit numbers are those of the private textures
pub record HasTextures (x : ClientContext) : Type 0 where
  pub images : length x.images ≡ private_count
  pub edits : length x.edits ≡ private_count

-- an image is as it was, or its edit number is one more and there is one
abbrev pub GoesOn : ClientContext → ClientContext → ℕ → Type 0
GoesOn x y name =
    ((edit_of y name ≡ edit_of x name) × (private_image y name ≡ private_image x name))
    ⊎ ((edit_of y name ≡ edit_of x name + 1) × (p : Picture) × (private_image y name ≡ Some p))

-- a step: the textures are there, and each goes on
pub record Steps (x y : ClientContext) : Type 0 where
  pub has : HasTextures y
  pub on : (name : ℕ) → GoesOn x y name

kept : (x y : ClientContext) → y.images ≡ x.images → y.edits ≡ x.edits → HasTextures x → Steps x y
kept x y e f h = record {
  has = record { images = ap length e ∙ h.images; edits = ap length f ∙ h.edits };
  on = λ name. inl (ap (λ (l : List ℕ). unwrap_or (at_name l name) 0) f, ap (λ (l : List (Option Picture)). unwrap_or (at_name l name) None) e);
}

-- the image that is written
same_on : (x : ClientContext) (name : ℕ) (p : Picture) → HasTextures x → GoesOn x (with_image x name p) name
same_on x zero p h = inl (refl, refl)
same_on x (suc n) p h = elim (cases_lt n private_count) [
  | inl low ↦ inr (
    ap (λ (o : Option ℕ). unwrap_or o 0) (same_name x.edits n (edit_of x (suc n) + 1) (omega (arith, h.edits, low))),
    p,
    ap (λ (o : Option (Option Picture)). unwrap_or o None) (same_name x.images n (Some p) (omega (arith, h.images, low))),
  )
  | inr past ↦
      let edits = x.edits in
      let images = x.images in
      let e = edit_of x (suc n) + 1 in
      inl (
        ap (λ (o : Option ℕ). unwrap_or o 0) (name_past (with_name edits (suc n) e) n (omega (arith, length_with_name edits (suc n) e, h.edits, past)) ∙ sym (name_past edits n (omega (arith, h.edits, past)))),
        ap (λ (o : Option (Option Picture)). unwrap_or o None)
            (name_past (with_name images (suc n) (Some p)) n (omega (arith, length_with_name images (suc n) (Some p), h.images, past)) ∙ sym (name_past images n (omega (arith, h.images, past)))),
      )
]

image_on : (x : ClientContext) (name : ℕ) (p : Picture) → HasTextures x → (other : ℕ) → GoesOn x (with_image x name p) other
image_on x name p h other =
    dite (ℕ_discrete other name)
    (λ (same : other ≡ name). subst (λ (k : ℕ). GoesOn x (with_image x name p) k) (sym same) (same_on x name p h))
    (λ (ne : other ≡ name → ⊥). inl (
      ap (λ (o : Option ℕ). unwrap_or o 0) (other_name x.edits name other (edit_of x name + 1) ne),
      ap (λ (o : Option (Option Picture)). unwrap_or o None) (other_name x.images name other (Some p) ne),
    ))

image_steps : (x : ClientContext) (name : ℕ) (p : Picture) → HasTextures x → Steps x (with_image x name p)
image_steps x name p h = record {
  has = record { images = length_with_name x.images name (Some p) ∙ h.images; edits = length_with_name x.edits name (edit_of x name + 1) ∙ h.edits };
  on = image_on x name p h;
}

part_steps : (x : ClientContext) (part : Part) (o : Option Picture) → HasTextures x → Steps x (option_map_or (λ (p : Picture). with_image x part.name (with_part p part)) o x)
part_steps x part None h = kept x x refl refl h
part_steps x part (Some p) h = image_steps x part.name (with_part p part) h

-- the stacks and the state hold no image
abbrev pub SameTextures : ClientContext → ClientContext → Type 0
SameTextures x y = (y.images ≡ x.images) × (y.edits ≡ x.edits)

pub top_same : (x : ClientContext) (m : Mat4) → SameTextures x (with_top x m)
top_same x m = elim (cases_Bool (x.matrix_mode == 0)) [ inl t ↦ rw t (refl, refl) | inr f ↦ rw f (refl, refl) ]

pub below_same_textures : (x : ClientContext) (ms : List Mat4) → SameTextures x (with_below x ms)
below_same_textures x ms = elim (cases_Bool (x.matrix_mode == 0)) [ inl t ↦ rw t (refl, refl) | inr f ↦ rw f (refl, refl) ]

pub pop_same : (x : ClientContext) (m : Mat4) (ms : List Mat4) → SameTextures x (with_below (with_top x m) ms)
pop_same x m ms = let a = top_same x m in let b = below_same_textures (with_top x m) ms in (b.0 ∙ a.0, b.1 ∙ a.1)

by_same : (x y : ClientContext) → SameTextures x y → HasTextures x → Steps x y
by_same x y s h = kept x y s.0 s.1 h

carried : (x : ClientContext) (c : Command) → HasTextures x → Steps x (carried_out x c)
carried x (cmd.TexImage name w high bytes) h = image_steps x name (record { w = w; h = high; texels = bytes }) h
carried x (cmd.TexPart part) h = part_steps x part (private_image x part.name) h
carried x cmd.LoadIdentity h = by_same x _ (top_same x identity) h
carried x (cmd.LoadMatrix m) h = by_same x _ (top_same x m) h
carried x (cmd.MultMatrix m) h = by_same x _ (top_same x (record { m = product_of (top x).m m.m })) h
carried x cmd.PushMatrix h = by_same x _ (below_same_textures x (below x ++ top x ∷ [])) h
carried x cmd.PopMatrix h = by_same x _ (pop_same x (last_of (below x)) (front_of (below x))) h
carried x c h = kept x _ refl refl h

-- ---- along a stream

by_fault : (x : ClientContext) (place : ℕ) (c : Command) (f : Option Fault) → HasTextures x → Steps x (option_map_or (refused x place) f (carried_out x c))
by_fault x place c None h = carried x c h
by_fault x place c (Some f) h = kept x _ refl refl h

pub next : (x : ClientContext) (place : ℕ) (c : Option Command) → HasTextures x → Steps x (issued_next x place c)
unfolding issued
next x place None h = kept x x refl refl h
next x place (Some c) h = by_fault x place c (fault_of x c) h

pub has_textures : (scene : Scene) (client n : ℕ) → HasTextures (context_after scene client n)
unfolding context_after default_context
has_textures scene client zero = record { images = refl; edits = refl }
has_textures scene client (suc n) = (next (context_after scene client n) n (command_at scene client n) (has_textures scene client n)).has

step : (scene : Scene) (client n name : ℕ) → GoesOn (context_after scene client n) (context_after scene client (suc n)) name
unfolding context_after
step scene client n name = (next (context_after scene client n) n (command_at scene client n) (has_textures scene client n)).on name

-- later on the edit number is as it was and so is the image, or it is higher
abbrev IsLater : ClientContext → ClientContext → ℕ → Type 0
IsLater x y name = ((edit_of y name ≡ edit_of x name) × (private_image y name ≡ private_image x name)) ⊎ (edit_of x name < edit_of y name)

then_on : (x y z : ClientContext) (name : ℕ) → IsLater x y name → GoesOn y z name → IsLater x z name
then_on x y z name (inl a) (inl b) = inl (b.0 ∙ a.0, b.1 ∙ a.1)
then_on x y z name (inl a) (inr b) = inr (omega (arith, a.0, b.0))
then_on x y z name (inr a) (inl b) = inr (omega (arith, a, b.0))
then_on x y z name (inr a) (inr b) = inr (omega (arith, a, b.0))

later : (scene : Scene) (client n more name : ℕ) → IsLater (context_after scene client n) (context_after scene client (n + more)) name
later scene client n zero name =
    let e : n ≡ n + 0 = omega arith in
    subst (λ (k : ℕ). IsLater (context_after scene client n) (context_after scene client k) name) e (inl (refl, refl))
later scene client n (suc more) name =
    let e : suc (n + more) ≡ n + suc more = omega arith in
    subst (λ (k : ℕ). IsLater (context_after scene client n) (context_after scene client k) name) e
    (then_on (context_after scene client n) (context_after scene client (n + more)) (context_after scene client (suc (n + more))) name (later scene client n more name) (step scene client (n + more) name))

pub never_falls : (scene : Scene) (client n more name : ℕ) → edit_of (context_after scene client n) name ≤ edit_of (context_after scene client (n + more)) name
never_falls scene client n more name = elim (later scene client n more name) [ inl a ↦ omega (arith, a.0) | inr a ↦ omega (arith, a) ]

in_order : (scene : Scene) (client a b name : ℕ) → a ≤ b → edit_of (context_after scene client a) name ≡ edit_of (context_after scene client b) name
    → private_image (context_after scene client b) name ≡ private_image (context_after scene client a) name
in_order scene client a b name le same =
    let e : a + (b - a) ≡ b = omega arith in
    elim (subst (λ (k : ℕ). IsLater (context_after scene client a) (context_after scene client k) name) e (later scene client a (b - a) name)) [
      | inl s ↦ s.1
      | inr less ↦ absurd (omega (arith, less, same))
    ]

pub same_images : (scene : Scene) (client a b name : ℕ) → edit_of (context_after scene client a) name ≡ edit_of (context_after scene client b) name
    → private_image (context_after scene client a) name ≡ private_image (context_after scene client b) name
same_images scene client a b name same = elim (cases_lt a b) [
  | inl less ↦ sym (in_order scene client a b name (omega (arith, less)) same)
  | inr more ↦ in_order scene client b a name more (sym same)
]

-- ---- how high an edit number is

zeros : (n name : ℕ) → let zero_edit : ℕ = 0 in unwrap_or (at_name (replicate n zero_edit) name) zero_edit ≡ zero_edit
zeros n zero = refl
zeros zero (suc k) = refl
zeros (suc n) (suc zero) = refl
zeros (suc n) (suc (suc k)) = zeros n (suc k)

first : (scene : Scene) (client name : ℕ) → edit_of (context_after scene client 0) name ≡ 0
unfolding context_after default_context
first scene client name = zeros 64 name

pub at_most : (scene : Scene) (client n name : ℕ) → edit_of (context_after scene client n) name ≤ n
at_most scene client zero name = omega (arith, first scene client name)
at_most scene client (suc n) name = elim (step scene client n name) [
  | inl a ↦ omega (arith, a.0, at_most scene client n name)
  | inr a ↦ omega (arith, a.0, at_most scene client n name)
]
