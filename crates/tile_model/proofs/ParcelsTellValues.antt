-- What a client's parcels told their tile: of each element the value that it had at some command, and of those that a parcel examines one that is the same
-- as the present one.
use Rattle.std.proofs.Common.{◌≡◌, ℕ, zero, suc, ◌+◌, ◌<◌, ◌≤◌, Bool, true, false, List, [], ◌∷◌, ◌++◌, ◌⊎◌, fold, inl, inr, refl, sym, ap, ◌∙◌, subst, arith, eq-eqb, ne_eqb, append-nil}
use Rattle.std.specs.Prelude.{if◌then◌else◌, ◌≢◌}
use Rattle.std.specs.List.{flat_map, range_with_len}
use Rattle.std.proofs.lemmas.Bool.{cases_Bool}
use Rattle.std.proofs.lemmas.Grind.{flat_map-append}
use Rattle.std.proofs.lemmas.List.Sums.{fold-append}
use native.Mathlib.Decide.{ℕ_discrete}
use mathlib.Core.Logic.{dite}
use Rattle.rc_base.specs.Lists.{IsIn}
use Rattle.rc_base.specs.Contexts.Context.{ClientContext}
use Rattle.rc_base.specs.Contexts.Elements.{value_in, default_value, same_value, scalar_count}
use Rattle.rc_base.specs.Contexts.Issue.{context_after}
use Rattle.rc_base.specs.Cluster.Parcels.{told_by, told, set_of, sets_for, examined, sampled_images, parcels_at, parcels_before}
use Rattle.rc_base.specs.declared.scene.Decl.{Decl}
use Rattle.rc_base.specs.declared.scene.Scene.{Scene}
use Rattle.rc_base.specs.declared.state.Act.{Act}
use Rattle.rc_base.specs.declared.state.Act.TheVariants as act
use Rattle.rc_base.specs.declared.state.ElementValue.{ElementValue}
use Rattle.rc_base.specs.declared.state.Parcel.{Parcel}
use Rattle.rc_base.specs.declared.window.Layout.{Layout}
use Rattle.gl_context.proofs.OneElement.{begins_with_defaults}
use Rattle.order_model.proofs.StandsInLists.{in_left}
use Rattle.scene_lemmas.proofs.Numbered.{is_in_behind}
use Rattle.tile_model.proofs.ParcelsAreJobs.{parcels_given}
use Rattle.tile_model.proofs.ParcelsComeFromCommands.{sets_by, command_makes}

-- ---- one parcel more

pub told_more : (d : Decl) (ps : List Parcel) (p : Parcel) (e : ℕ) → told d (ps ++ p ∷ []) e ≡ fold (told_by e) (told d ps e) p.sets
unfolding told
told_more d ps p e =
    ap (fold (told_by e) (default_value d e)) (flat_map-append (λ (q : Parcel). q.sets) ps (p ∷ []) ∙ ap (λ l. flat_map (λ (q : Parcel). q.sets) ps ++ l) (append-nil p.sets))
    ∙ fold-append (told_by e) (default_value d e) (flat_map (λ (q : Parcel). q.sets) ps) p.sets

-- ---- the sets of the elements that are examined

other_set : (values : ℕ → ElementValue) (x : ClientContext) (e k : ℕ) (v : ElementValue) → k ≢ e → fold (told_by e) v (set_of values x k) ≡ v
other_set values x e k v ne = elim (cases_Bool (same_value (values k) (value_in x k))) [
  | inl t ↦ rw t refl
  | inr f ↦ rw f (ap (λ b. if b then value_in x k else v) (ne_eqb k e ne))
]

-- an element that is the same is not set
same_stays : (values : ℕ → ElementValue) (x : ClientContext) (e : ℕ) (v : ElementValue) (es : List ℕ) → same_value (values e) (value_in x e) ≡ true
    → fold (told_by e) v (flat_map (set_of values x) es) ≡ v
same_stays values x e v [] t = refl
same_stays values x e v (k ∷ es) t =
    let rest = flat_map (set_of values x) es in
    let here : fold (told_by e) v (set_of values x k) ≡ v = dite (ℕ_discrete k e)
    (λ (same : k ≡ e). subst (λ j. fold (told_by e) v (set_of values x j) ≡ v) (sym same) (rw t refl))
    (λ (ne : k ≢ e). other_set values x e k v ne) in
    fold-append (told_by e) v (set_of values x k) rest ∙ ap (λ w. fold (told_by e) w rest) here ∙ same_stays values x e v es t

own_set : (values : ℕ → ElementValue) (x : ClientContext) (e : ℕ) (v : ElementValue) → same_value (values e) (value_in x e) ≡ false
    → fold (told_by e) v (set_of values x e) ≡ value_in x e
own_set values x e v f = rw f (ap (λ b. if b then value_in x e else v) (eq-eqb e e refl))

-- one that differs has its value from there on
new_stays : (values : ℕ → ElementValue) (x : ClientContext) (e : ℕ) (es : List ℕ) → same_value (values e) (value_in x e) ≡ false
    → fold (told_by e) (value_in x e) (flat_map (set_of values x) es) ≡ value_in x e
new_stays values x e [] f = refl
new_stays values x e (k ∷ es) f =
    let rest = flat_map (set_of values x) es in
    let here : fold (told_by e) (value_in x e) (set_of values x k) ≡ value_in x e = dite (ℕ_discrete k e)
    (λ (same : k ≡ e). subst (λ j. fold (told_by e) (value_in x e) (set_of values x j) ≡ value_in x e) (sym same) (own_set values x e (value_in x e) f))
    (λ (ne : k ≢ e). other_set values x e k (value_in x e) ne) in
    fold-append (told_by e) (value_in x e) (set_of values x k) rest ∙ ap (λ w. fold (told_by e) w rest) here ∙ new_stays values x e es f

set_in : (values : ℕ → ElementValue) (x : ClientContext) (e : ℕ) (v : ElementValue) (es : List ℕ) → same_value (values e) (value_in x e) ≡ false → IsIn e es
    → fold (told_by e) v (flat_map (set_of values x) es) ≡ value_in x e
set_in values x e v [] f i = absurd i
set_in values x e v (k ∷ es) f (inl same) =
    let rest = flat_map (set_of values x) es in
    fold-append (told_by e) v (set_of values x k) rest
    ∙ ap (λ w. fold (told_by e) w rest) (subst (λ j. fold (told_by e) v (set_of values x j) ≡ value_in x e) (sym same) (own_set values x e v f)) ∙ new_stays values x e es f
set_in values x e v (k ∷ es) f (inr i) =
    let rest = flat_map (set_of values x) es in
    fold-append (told_by e) v (set_of values x k) rest ∙ set_in values x e (fold (told_by e) v (set_of values x k)) es f i

-- as it was, or the present value
kept_or_set : (values : ℕ → ElementValue) (x : ClientContext) (e : ℕ) (v : ElementValue) (es : List ℕ)
    → (fold (told_by e) v (flat_map (set_of values x) es) ≡ v) ⊎ (fold (told_by e) v (flat_map (set_of values x) es) ≡ value_in x e)
kept_or_set values x e v [] = inl refl
kept_or_set values x e v (k ∷ es) =
    let rest = flat_map (set_of values x) es in
    let whole = fold-append (told_by e) v (set_of values x k) rest in
    dite (ℕ_discrete k e)
    (λ (same : k ≡ e). elim (cases_Bool (same_value (values e) (value_in x e))) [
      | inl t ↦ inl (same_stays values x e v (k ∷ es) t)
      | inr f ↦ inr (set_in values x e v (k ∷ es) f (inl same))
    ])
    (λ (ne : k ≢ e). let here = other_set values x e k v ne in elim (kept_or_set values x e (fold (told_by e) v (set_of values x k)) es) [
      | inl same ↦ inl (whole ∙ same ∙ here)
      | inr now ↦ inr (whole ∙ now)
    ])

-- what a parcel that examines an element leaves of it
pub examined_told : (values : ℕ → ElementValue) (x : ClientContext) (draws : Bool) (e : ℕ) → IsIn e (examined x draws)
    → (fold (told_by e) (values e) (sets_for values x draws) ≡ value_in x e)
    ⊎ ((fold (told_by e) (values e) (sets_for values x draws) ≡ values e) × (same_value (values e) (value_in x e) ≡ true))
unfolding sets_for
examined_told values x draws e i = elim (cases_Bool (same_value (values e) (value_in x e))) [
  | inl t ↦ inr (same_stays values x e (values e) (examined x draws) t, t)
  | inr f ↦ inl (set_in values x e (values e) (examined x draws) f i)
]

-- ---- which elements are examined

in_range : (a n e : ℕ) → a ≤ e → e < a + n → IsIn e (range_with_len a n)
in_range a zero e low high = absurd (omega arith)
in_range a (suc n) e low high = dite (ℕ_discrete a e) (λ (same : a ≡ e). inl same) (λ (ne : a ≢ e). inr (in_range (a + 1) n e (omega arith) (omega arith)))

pub scalar_examined : (x : ClientContext) (draws : Bool) (e : ℕ) → e < scalar_count → IsIn e (examined x draws)
scalar_examined x draws e low = in_left e (range_with_len 0 scalar_count) (if draws then sampled_images x else []) (in_range 0 scalar_count e (omega arith) (omega arith))

pub sampled_examined : (x : ClientContext) (e : ℕ) → IsIn e (sampled_images x) → IsIn e (examined x true)
sampled_examined x e i = is_in_behind e (range_with_len 0 scalar_count) (sampled_images x) i

-- ---- along the commands

by_act : (values : ℕ → ElementValue) (x : ClientContext) (a : Act) (e : ℕ) (v : ElementValue)
    → (fold (told_by e) v (sets_by values x a) ≡ v) ⊎ (fold (told_by e) v (sets_by values x a) ≡ value_in x e)
unfolding sets_for
by_act values x (act.Draw b) e v = kept_or_set values x e v (examined x true)
by_act values x (act.Clear m) e v = kept_or_set values x e v (examined x false)
by_act values x (act.Shared p) e v = inl refl
by_act values x (act.Sync op) e v = inl refl
by_act values x act.End e v = inl refl

-- what was told of an element is its value at one of the commands so far, the default at first
abbrev pub WasTold : Scene → ℕ → ℕ → ℕ → ElementValue → Type 0
WasTold scene client n e v = (i : ℕ) × (i ≤ n) × (v ≡ value_in (context_after scene client i) e)

later : (scene : Scene) (client n e : ℕ) (v w : ElementValue) → w ≡ v → WasTold scene client n e v → WasTold scene client (suc n) e w
later scene client n e v w same h = (h.0, omega (arith, h.1), same ∙ h.2)

first_told : (d : Decl) (e : ℕ) → told d [] e ≡ default_value d e
unfolding told
first_told d e = refl

pub parcel_told : (scene : Scene) (l : Layout) (client tile n e : ℕ) (earlier : List Parcel) (p : Parcel) → parcels_at scene l client tile n earlier ≡ p ∷ []
    → told scene.decl (earlier ++ p ∷ []) e ≡ fold (told_by e) (told scene.decl earlier e) (sets_by (told scene.decl earlier) (context_after scene client n) p.act)
parcel_told scene l client tile n e earlier p is =
    told_more scene.decl earlier p e ∙ ap (fold (told_by e) (told scene.decl earlier e)) (command_makes scene l client tile n earlier p is).sets

pub parcel_was_told : (scene : Scene) (l : Layout) (client tile n e : ℕ) (earlier : List Parcel) (p : Parcel) → parcels_at scene l client tile n earlier ≡ p ∷ []
    → WasTold scene client n e (told scene.decl earlier e) → WasTold scene client n e (told scene.decl (earlier ++ p ∷ []) e)
parcel_was_told scene l client tile n e earlier p is before =
    let values = told scene.decl earlier in
    let whole = parcel_told scene l client tile n e earlier p is in
    elim (by_act values (context_after scene client n) p.act e (values e)) [
      | inl same ↦ (before.0, before.1, whole ∙ same ∙ before.2)
      | inr now ↦ (n, omega arith, whole ∙ now)
    ]

pub was_told : (scene : Scene) (l : Layout) (client tile n e : ℕ) → WasTold scene client n e (told scene.decl (parcels_before scene l client tile n) e)
unfolding parcels_before
was_told scene l client tile zero e = (0, omega arith, first_told scene.decl e ∙ sym (begins_with_defaults scene client e))
was_told scene l client tile (suc n) e =
    let earlier = parcels_before scene l client tile n in
    let before = was_told scene l client tile n e in
    elim (parcels_given scene l client tile n earlier) [
      | inl none ↦ later scene client n e (told scene.decl earlier e) _ (ap (λ ps. told scene.decl ps e) (ap (λ ps. earlier ++ ps) none ∙ append-nil earlier)) before
      | inr w ↦ later scene client n e (told scene.decl (earlier ++ w.0 ∷ []) e) _ (ap (λ ps. told scene.decl (earlier ++ ps) e) w.1)
          (parcel_was_told scene l client tile n e earlier w.0 w.1 before)
    ]
