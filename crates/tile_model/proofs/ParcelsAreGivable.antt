-- Every parcel of a scene is one that a scene can give.
use Rattle.std.proofs.Common.{◌≡◌, ℕ, zero, suc, ◌+◌, ◌*◌, ◌<◌, ◌≤◌, ◌==◌, ◌&&◌, Bool, true, false, List, [], ◌∷◌, length, Some, None, slice_get, inl, inr, refl, sym, ap, ◌∙◌, subst, arith, eq-eqb, lt-ltb, ltb-true, leb-true}
use Rattle.std.specs.Prelude.{if◌then◌else◌, nat_lt, nat_le, is_some, slice_index, slice_index_or}
use Rattle.std.specs.declared.option.Option.{Option}
use Rattle.std.specs.List.{flat_map, list_all, range_with_len}
use Rattle.std.specs.Option.{option_map_or}
use Rattle.std.proofs.lemmas.Bool.{cases_Bool, and_parts, and_from}
use Rattle.std.proofs.lemmas.List.Folds.{list_all-append}
use Rattle.rc_base.specs.Lists.{IsIn}
use Rattle.rc_base.specs.Pictures.{Picture}
use Rattle.rc_base.specs.Formats.Commands.{has_codes}
use Rattle.rc_base.specs.Contexts.Context.{ClientContext, private_image, private_count, edit_of, shared_sides}
use Rattle.rc_base.specs.Contexts.Elements.{values_of, value_in, no_image, image_value, image_element, scalar_count, element_count, same_value}
use Rattle.rc_base.specs.Contexts.Faults.{fault_of, is_name, lies_inside}
use Rattle.rc_base.specs.Contexts.Issue.{done_by, effect_of, effect_at, command_at, context_after, stream_of}
use Rattle.rc_base.specs.Drawing.Texel.{bound_kind, bound_name}
use Rattle.rc_base.specs.Cluster.Parcels.{told, set_of, sets_for, examined, sampled_images, effect_by, parcels_before, parcels_of}
use Rattle.rc_base.specs.declared.command.Command.{Command}
use Rattle.rc_base.specs.declared.command.Command.TheVariants as cmd
use Rattle.rc_base.specs.declared.command.Part.{Part}
use Rattle.rc_base.specs.declared.scene.Decl.{Decl}
use Rattle.rc_base.specs.declared.scene.Scene.{Scene}
use Rattle.rc_base.specs.declared.state.Act.{Act}
use Rattle.rc_base.specs.declared.state.Act.TheVariants as act
use Rattle.rc_base.specs.declared.state.Effect.TheVariants as eff
use Rattle.rc_base.specs.declared.state.ElementSet.{ElementSet}
use Rattle.rc_base.specs.declared.state.ElementValue.{ElementValue}
use Rattle.rc_base.specs.declared.state.Fault.{Fault}
use Rattle.rc_base.specs.declared.state.Parcel.{Parcel}
use Rattle.rc_base.specs.declared.window.Layout.{Layout}
use Rattle.gl_context.specs.Valid.{IsValidContext, IsPrivateImage}
use Rattle.gl_context.proofs.Accepted.{accepted}
use Rattle.gl_context.proofs.OneElement.{image_element_is}
use Rattle.gl_context.proofs.ValidContexts.{valid, command_of as is_in_range, stream_all}
use Rattle.order_model.proofs.StandsInLists.{in_append}
use Rattle.element_table.specs.Kinds.{has_kind, kind_of}
use Rattle.element_table.specs.Values.{has_sides, is_binding, is_value_of}
use Rattle.element_table.specs.declared.kind.ValueKind.{ValueKind}
use Rattle.element_table.proofs.Rows.{image_kind}
use Rattle.scene_lemmas.proofs.Contexts.{written_by_shared_image}
use Rattle.scene_lemmas.proofs.Numbered.{in_range_below}
use Rattle.tile_model.specs.Scenes.{HasSides, IsInRange}
use Rattle.tile_model.specs.Givable.{is_shared_part, is_givable, is_givable_act}
use Rattle.tile_model.proofs.DepthsAreInRange.{HasDepths, depths_at}
use Rattle.tile_model.proofs.ValuesTellImages.{edited}
use Rattle.tile_model.proofs.ParcelsComeFromCommands.{sets_by, command_makes, of_command_or_end}

-- ---- the values of a context

abbrev AllFrom : Decl → ℕ → List ElementValue → Type 0
AllFrom d e [] = Unit {0}
AllFrom d e (v ∷ vs) = (is_value_of d e v ≡ true) × AllFrom d (suc e) vs

one_of : (d : Decl) (a e : ℕ) (vs : List ElementValue) (v : ElementValue) → e < length vs → AllFrom d a vs → is_value_of d (a + e) (slice_index_or vs e v) ≡ true
one_of d a e [] v low h = absurd (omega arith)
one_of d a zero (w ∷ vs) v low h = let same : a + 0 ≡ a = omega arith in rw same h.0
one_of d a (suc e) (w ∷ vs) v low h = let same : a + suc e ≡ suc a + e = omega arith in rw same (one_of d (suc a) e vs v (omega arith) h.1)

binding_is : (d : Decl) (kind name : ℕ) → HasSides d → has_codes (cmd.BindTexture kind name) ≡ true → is_name name (if kind == 0 then private_count else length d.shared) ≡ true
    → is_binding d kind name ≡ true
binding_is d kind name sides codes named = and_from (has_codes (cmd.BindTexture kind name)) _ codes (elim (cases_Bool (kind == 0)) [
  | inl t ↦ rw t (rw t at named)
  | inr f ↦ let n : is_name name (length d.shared) ≡ true = rw f at named in rw f (and_from (is_name name (length d.shared)) (has_sides d name) n (sides name n))
])

scalars_right : (d : Decl) (x : ClientContext) → HasSides d → IsValidContext d x → HasDepths x.state → AllFrom d 0 (values_of x.state)
unfolding values_of kind_of
scalars_right d x sides h depths =
    let c = h.codes in
    let range = and_from _ _ depths.near depths.far in
    let binding = binding_is d (bound_kind x.state) (bound_name x.state) sides c.binding h.bound in
    let mode = and_from _ _ c.environment c.wraps in
    -- 0 to 6, 7 to 12, 13 to 21
    (
      refl,
      (
        refl,
        (
          refl,
          (
            range,
            (
              refl,
              (
                refl,
                (
                  refl,
                  (
                    c.cull_face,
                    (
                      c.front_face,
                      (
                        refl,
                        (
                          c.alpha,
                          (
                            refl,
                            (
                              c.depth_func,
                              (refl, (refl, (c.blend, (refl, (refl, (depths.clear, (refl, (binding, (mode, tt))))))))),
                            ),
                          ),
                        ),
                      ),
                    ),
                  ),
                ),
              ),
            ),
          ),
        ),
      ),
    )

scalar_right : (d : Decl) (x : ClientContext) → HasSides d → IsValidContext d x → HasDepths x.state → (e : ℕ) → e < scalar_count → is_value_of d e (value_in x e) ≡ true
unfolding values_of
scalar_right d x sides h depths e low =
    let zero_more : 0 + e ≡ e = omega arith in
    subst (λ k. is_value_of d k (value_in x e) ≡ true) zero_more (one_of d 0 e (values_of x.state) _ (omega (arith, low)) (scalars_right d x sides h depths))

-- ---- the image that a draw samples

image_right : (d : Decl) (x : ClientContext) (name edit : ℕ) (p : Picture) → 0 < name → name ≤ private_count → 0 < edit → IsPrivateImage p
    → is_value_of d (image_element name) (image_value edit p) ≡ true
image_right d x name edit p low high some h =
    let value = image_value edit p in
    let kind : has_kind value (kind_of (image_element name)) ≡ true = ap (λ (k : ValueKind). has_kind value k) (image_kind (image_element name) (omega (arith, low))) in
    let at : nat_lt (image_element name) element_count ≡ true = lt-ltb (image_element name) element_count (omega arith) in
    let whole : (nat_lt 0 edit && length p.texels == 4 * (p.w * p.h)) ≡ true = and_from _ _ (lt-ltb 0 edit some) (eq-eqb (length p.texels) (4 * (p.w * p.h)) h.whole) in
    and_from _ _ kind (and_from _ _ at (and_from _ _ whole (and_from _ _ h.w h.h)))

sampled_right : (scene : Scene) (client n : ℕ) → IsInRange scene → let x = context_after scene client n in
    (kind : Bool) → (bound_kind x.state == 0) ≡ kind → (on : Bool) → x.state.texture_on ≡ on → (o : Option Picture) → private_image x (bound_name x.state) ≡ o
    → (e : ℕ) → IsIn e (if on && (kind && is_some o) then image_element (bound_name x.state) ∷ [] else []) → is_value_of scene.decl e (value_in x e) ≡ true
sampled_right scene client n range true private true is (Some p) has e (inl same) =
    let x = context_after scene client n in
    let name = bound_name x.state in
    let h = valid scene range client n in
    let named : is_name name private_count ≡ true = rw private at h.bound in
    let both = and_parts (nat_lt 0 name) (nat_le name private_count) named in
    let low = ltb-true 0 name both.0 in
    let value : value_in x (image_element name) ≡ image_value (edit_of x name) p = image_element_is x name low ∙ ap (λ o. option_map_or (image_value (edit_of x name)) o no_image) has in
    let some : 0 < edit_of x name = elim (edited scene client n name) [ inl k ↦ absurd (let no : Some p ≡ None = sym has ∙ k.1 in cc) | inr k ↦ k.0 ] in
    subst (λ k. is_value_of scene.decl k (value_in x k) ≡ true) same
    (subst (λ v. is_value_of scene.decl (image_element name) v ≡ true) (sym value)
    (image_right scene.decl x name (edit_of x name) p low (leb-true name private_count both.1) some (h.pictures name p has)))
sampled_right scene client n range true private true is (Some p) has e (inr i) = absurd i
sampled_right scene client n range true private true is None has e i = absurd i
sampled_right scene client n range false private true is o has e i = absurd i
sampled_right scene client n range kind private false is o has e i = absurd i

-- ---- sets

examined_right : (scene : Scene) (client n : ℕ) (draws : Bool) → IsInRange scene → HasSides scene.decl → (e : ℕ) → IsIn e (examined (context_after scene client n) draws)
    → is_value_of scene.decl e (value_in (context_after scene client n) e) ≡ true
examined_right scene client n draws range sides e i =
    let x = context_after scene client n in
    elim (in_append e (range_with_len 0 scalar_count) (if draws then sampled_images x else []) i) [
      | inl a ↦ scalar_right scene.decl x sides (valid scene range client n) (depths_at scene client n) e (let lt = in_range_below 0 scalar_count e a in omega arith)
      | inr b ↦ elim (cases_Bool draws) [
        | inl t ↦ sampled_right scene client n range (bound_kind x.state == 0) refl x.state.texture_on refl (private_image x (bound_name x.state)) refl e (subst (λ k. IsIn e (if k then sampled_images x else [])) t b)
        | inr f ↦ absurd (subst (λ k. IsIn e (if k then sampled_images x else [])) f b)
      ]
    ]

abbrev right_set : Decl → ElementSet → Bool
right_set d set = is_value_of d set.element set.value

all_sets : (d : Decl) (values : ℕ → ElementValue) (x : ClientContext) (es : List ℕ) → ((e : ℕ) → IsIn e es → is_value_of d e (value_in x e) ≡ true)
    → list_all (right_set d) (flat_map (set_of values x) es) ≡ true
all_sets d values x [] h = refl
all_sets d values x (e ∷ es) h =
    let one : list_all (right_set d) (set_of values x e) ≡ true = elim (cases_Bool (same_value (values e) (value_in x e))) [
      | inl t ↦ rw t refl
      | inr f ↦ rw f (and_from _ _ (h e (inl refl)) refl)
    ] in
    list_all-append (right_set d) (set_of values x e) (flat_map (set_of values x) es) ∙ and_from _ _ one (all_sets d values x es (λ k i. h k (inr i)))

sets_right : (scene : Scene) (client n : ℕ) (values : ℕ → ElementValue) (a : Act) → IsInRange scene → HasSides scene.decl
    → list_all (right_set scene.decl) (sets_by values (context_after scene client n) a) ≡ true
unfolding sets_for
sets_right scene client n values (act.Draw b) range sides = all_sets scene.decl values (context_after scene client n) (examined (context_after scene client n) true) (examined_right scene client n true range sides)
sets_right scene client n values (act.Clear m) range sides = all_sets scene.decl values (context_after scene client n) (examined (context_after scene client n) false) (examined_right scene client n false range sides)
sets_right scene client n values (act.Shared p) range sides = refl
sets_right scene client n values (act.Sync op) range sides = refl
sets_right scene client n values act.End range sides = refl

-- ---- parts of shared textures

accepted_by : (x : ClientContext) (c : Command) (part : Part) (f : Option Fault) → fault_of x c ≡ f → option_map_or (λ g. eff.Refused g) f (done_by x c) ≡ eff.Shared part
    → (fault_of x c ≡ None) × (c ≡ cmd.SharedImage part)
accepted_by x c part None is e = (is, written_by_shared_image x c part e)
accepted_by x c part (Some g) is e = absurd cc

-- the command that writes it
written_at : (scene : Scene) (client n : ℕ) (part : Part) (o : Option Command) → command_at scene client n ≡ o → option_map_or (effect_of (context_after scene client n)) o eff.Quiet ≡ eff.Shared part
    → (command_at scene client n ≡ Some (cmd.SharedImage part)) × (fault_of (context_after scene client n) (cmd.SharedImage part) ≡ None)
unfolding effect_of
written_at scene client n part None is e = absurd cc
written_at scene client n part (Some c) is e =
    let x = context_after scene client n in
    let k = accepted_by x c part (fault_of x c) refl e in
    (is ∙ ap (λ d. Some d) k.1, subst (λ d. fault_of x d ≡ None) k.1 k.0)

part_right : (scene : Scene) (client n : ℕ) (part : Part) → IsInRange scene → effect_at scene client n ≡ eff.Shared part → is_shared_part scene.decl part ≡ true
unfolding effect_at
part_right scene client n part range is =
    let x = context_after scene client n in
    let w = written_at scene client n part (command_at scene client n) refl is in
    let a = accepted x (cmd.SharedImage part) w.1 in
    let shared = (valid scene range client n).shared in
    let i = is_in_range (stream_of scene client) n (cmd.SharedImage part) (stream_all scene.streams client range) w.0 in
    let named : is_name part.name (length scene.decl.shared) ≡ true = subst (λ sizes. is_name part.name (length sizes) ≡ true) shared a.values in
    let inside : lies_inside part (slice_index (shared_sides scene.decl.shared part.name) 0) (slice_index (shared_sides scene.decl.shared part.name) 1) ≡ true
    = subst (λ sizes. lies_inside part (slice_index (shared_sides sizes part.name) 0) (slice_index (shared_sides sizes part.name) 1) ≡ true) shared a.fits in
    let texels : length part.texels ≡ 4 * (part.w * part.h) = i.1.1.1.0.2 in
    and_from _ _ (and_from _ _ named (eq-eqb (length part.texels) (4 * (part.w * part.h)) texels)) inside

act_right : (scene : Scene) (client n : ℕ) (a : Act) → IsInRange scene → effect_by a ≡ effect_at scene client n → is_givable_act scene.decl a ≡ true
act_right scene client n (act.Draw b) range e = refl
act_right scene client n (act.Clear m) range e = refl
act_right scene client n (act.Shared p) range e = part_right scene client n p range (sym e)
act_right scene client n (act.Sync op) range e = refl
act_right scene client n act.End range e = refl

-- ---- parcels

pub parcels_givable : (scene : Scene) (l : Layout) (client tile count : ℕ) (p : Parcel) → IsInRange scene → HasSides scene.decl → slice_get (parcels_of scene l client tile) count ≡ Some p
    → is_givable scene.decl p ≡ true
parcels_givable scene l client tile count p range sides is = elim (of_command_or_end scene l client tile count p is) [
  | inl c ↦
      let earlier = parcels_before scene l client tile p.place in
      let made = command_makes scene l client tile p.place earlier p c.made in
      and_from _ _ (ap (list_all (right_set scene.decl)) made.sets ∙ sets_right scene client p.place (told scene.decl earlier) p.act range sides)
      (act_right scene client p.place p.act range made.act)
  | inr same ↦ subst (λ q. is_givable scene.decl q ≡ true) same refl
]
