-- An element that isn't pending to a tile was told to it.
use Rattle.std.proofs.Common.{◌≡◌, ℕ, zero, suc, ◌+◌, ◌<◌, ◌&&◌, ◌||◌, not, Bool, true, false, List, [], ◌∷◌, ◌++◌, fold, ◌⊎◌, inl, inr, refl, sym, ap, subst, ◌∙◌, arith, eq-eqb, ne_eqb, true≢false}
use Rattle.std.specs.Prelude.{if◌then◌else◌, is_some, nat_eq}
use Rattle.std.specs.List.{list_any}
use Rattle.std.specs.Option.{option_map_or, option_and_then}
use Rattle.std.specs.declared.option.Option.{Option}
use Rattle.std.proofs.lemmas.Bool.{cases_eq, eqb-false, or_parts}
use Rattle.std.proofs.lemmas.List.{append-nil}
use Rattle.rc_base.specs.Contexts.Context.{ClientContext}
use Rattle.rc_base.specs.Contexts.Elements.{default_value, element_count, marks, same_value, value_in}
use Rattle.rc_base.specs.Contexts.Faults.{fault_of}
use Rattle.rc_base.specs.Contexts.Issue.{context_after, effect_at, fault_at}
use Rattle.rc_base.specs.Cluster.Looks.{examines_at, is_block, is_pending, marks_at}
use Rattle.rc_base.specs.Cluster.Parcels.{draws_on, examined, parcel_of, parcels_at, parcels_before, set_of, sets_for, told, told_by}
use Rattle.rc_base.specs.declared.command.Command.{Command}
use Rattle.rc_base.specs.declared.scene.Decl.{Decl}
use Rattle.rc_base.specs.declared.scene.Scene.{Scene}
use Rattle.rc_base.specs.declared.window.Layout.{Layout}
use Rattle.rc_base.specs.declared.state.Act.TheVariants as act
use Rattle.rc_base.specs.declared.state.Effect.{Effect}
use Rattle.rc_base.specs.declared.state.Effect.TheVariants as eff
use Rattle.rc_base.specs.declared.state.ElementValue.{ElementValue}
use Rattle.rc_base.specs.declared.state.Fault.{Fault}
use Rattle.rc_base.specs.declared.state.Parcel.{Parcel}
use Rattle.gl_context.specs.Elements.{SetsAt}
use Rattle.gl_context.proofs.OneElement.{begins_with_defaults, keeps_last_set}
use Rattle.state_update.specs.Knowledge.{after_sets}
use Rattle.element_table.proofs.SameValues.{same_itself}
use Rattle.state_update.proofs.Parcels.{told_more}
use Rattle.state_update.proofs.Telling.{after, after_cons, other_set}

-- ---- after the sets of a parcel

module _ (values : ℕ → ElementValue) (x : ClientContext) (e : ℕ) where
  -- the element is told as the context has it
  abbrev IsNow : ElementValue → Type 0
  IsNow v = same_value v (value_in x e) ≡ true

  abbrev after_one : ℕ → ElementValue → ElementValue
  after_one k v = fold (told_by e) v (set_of values x k)

  -- the element's own set leaves the context's value
  own_one : (k : ℕ) (v : ElementValue) → k ≡ e → (v ≡ values e) ⊎ IsNow v → IsNow (after_one k v)
  own_one k v own was = subst (λ (j : ℕ). IsNow (after_one j v)) (sym own) (by (same_value (values e) (value_in x e)) refl)
    where
      by : (b : Bool) → same_value (values e) (value_in x e) ≡ b → IsNow (fold (told_by e) v (if b then [] else record { element = e; value = value_in x e } ∷ []))
      by true same = elim was [
        | inl first ↦ ap (λ (w : ElementValue). same_value w (value_in x e)) first ∙ same
        | inr told ↦ told
      ]
      by false differs =
          ap (λ (b : Bool). same_value (if b then value_in x e else v) (value_in x e)) (eq-eqb e e refl) ∙ same_itself (value_in x e)

  -- what is told stays so
  stays_told : (es : List ℕ) (v : ElementValue) → IsNow v → IsNow (after values x e es v)
  stays_told [] v told = told
  stays_told (k ∷ es) v told =
      ap (λ (w : ElementValue). same_value w (value_in x e)) (after_cons values x e k es v)
      ∙ stays_told es (after_one k v) (elim (cases_eq k e) [
        | inl own ↦ own_one k v own (inr told)
        | inr other ↦ ap (λ (w : ElementValue). same_value w (value_in x e)) (other_set values x e k v other) ∙ told
      ])

  after_examined : (es : List ℕ) (v : ElementValue) → v ≡ values e → list_any (nat_eq e) es ≡ true → IsNow (after values x e es v)
  after_examined [] v first some = absurd (true≢false (sym some))
  after_examined (k ∷ es) v first some =
      ap (λ (w : ElementValue). same_value w (value_in x e)) (after_cons values x e k es v)
      ∙ elim (cases_eq k e) [
        | inl own ↦ stays_told es (after_one k v) (own_one k v own (inl first))
        | inr other ↦ after_examined es (after_one k v) (other_set values x e k v other ∙ first)
            (sym (ap (λ b. b || list_any (nat_eq e) es) (ne_eqb e k (λ same. other (sym same)))) ∙ some)
      ]

  after_others : (es : List ℕ) (v : ElementValue) → list_any (nat_eq e) es ≡ false → after values x e es v ≡ v
  after_others [] v none = refl
  after_others (k ∷ es) v none =
      let both = or_parts (nat_eq e k) (list_any (nat_eq e) es) none in
      after_cons values x e k es v
      ∙ ap (after values x e es) (other_set values x e k v (λ same. eqb-false e k both.0 (sym same)))
      ∙ after_others es v both.1

  pub told_of_examined : (draws : Bool) → list_any (nat_eq e) (examined x draws) ≡ true → IsNow (after_sets values (sets_for values x draws) e)
  unfolding sets_for
  told_of_examined draws some = after_examined (examined x draws) (values e) refl some

  pub told_of_others : (draws : Bool) → list_any (nat_eq e) (examined x draws) ≡ false → after_sets values (sets_for values x draws) e ≡ values e
  unfolding sets_for
  told_of_others draws none = after_others (examined x draws) (values e) none

-- ---- after a command

-- a command that isn't said to mark the element doesn't set it
not_set : (scene : Scene) (client n e : ℕ) → marks_at scene client n e ≡ false → SetsAt scene client n e → ⊥
unfolding fault_at
not_set scene client n e none set =
    let x = context_after scene client n in
    let c = set.0 in
    let marked : option_map_or (nat_eq e) (marks c x.matrix_mode) false ≡ true =
    ap (λ (o : Option ℕ). option_map_or (nat_eq e) o false) set.3 ∙ eq-eqb e e refl in
    true≢false (sym (
    ap (λ (o : Option Command). not (is_some (option_and_then (fault_of x) o)) && option_map_or (λ c. option_map_or (nat_eq e) (marks c x.matrix_mode) false) o false) set.1
    ∙ ap (λ (o : Option Fault). not (is_some o) && option_map_or (nat_eq e) (marks c x.matrix_mode) false) set.2
    ∙ marked) ∙ none)

value_stays : (scene : Scene) (client n e : ℕ) → marks_at scene client n e ≡ false
    → value_in (context_after scene client (suc n)) e ≡ value_in (context_after scene client n) e
value_stays scene client n e none =
    let next : suc n ≡ n + 1 = omega arith in
    ap (λ (k : ℕ). value_in (context_after scene client k) e) next
    ∙ keeps_last_set scene client n 1 e (λ k from to. let here : k ≡ n = omega (arith, from, to) in
    subst (λ (j : ℕ). SetsAt scene client j e → ⊥) (sym here) (not_set scene client n e none))

-- ---- after the parcels of a command

-- what a tile was told of an element is what the context holds, after what a command gives the tile
abbrev IsToldAfter : Decl → Layout → ℕ → List Parcel → ClientContext → ℕ → ℕ → Effect → Type 0
IsToldAfter d l tile earlier x place e effect =
    same_value (told d (earlier ++ parcel_of l tile (told d earlier) x place effect) e) (value_in x e) ≡ true

module _ (d : Decl) (l : Layout) (tile : ℕ) (earlier : List Parcel) (x : ClientContext) (place e : ℕ) where
  nothing_more : same_value (told d earlier e) (value_in x e) ≡ true → same_value (told d (earlier ++ []) e) (value_in x e) ≡ true
  nothing_more was = ap (λ (ps : List Parcel). same_value (told d ps e) (value_in x e)) (append-nil earlier) ∙ was

  no_sets : (p : Parcel) → p.sets ≡ [] → same_value (told d earlier e) (value_in x e) ≡ true → same_value (told d (earlier ++ p ∷ []) e) (value_in x e) ≡ true
  no_sets p none was =
      ap (λ (v : ElementValue). same_value v (value_in x e)) (sym (told_more d earlier p e) ∙ ap (fold (told_by e) (told d earlier e)) none) ∙ was

  with_sets : (p : Parcel) (draws : Bool) → p.sets ≡ sets_for (told d earlier) x draws
      → (list_any (nat_eq e) (examined x draws) ≡ false → same_value (told d earlier e) (value_in x e) ≡ true)
      → same_value (told d (earlier ++ p ∷ []) e) (value_in x e) ≡ true
  with_sets p draws sets was =
      ap (λ (v : ElementValue). same_value v (value_in x e)) (sym (told_more d earlier p e) ∙ ap (fold (told_by e) (told d earlier e)) sets)
      ∙ by (list_any (nat_eq e) (examined x draws)) refl
    where
      by : (b : Bool) → list_any (nat_eq e) (examined x draws) ≡ b → same_value (after_sets (told d earlier) (sets_for (told d earlier) x draws) e) (value_in x e) ≡ true
      by true some = told_of_examined (told d earlier) x e draws some
      by false none = ap (λ (v : ElementValue). same_value v (value_in x e)) (told_of_others (told d earlier) x e draws none) ∙ was none

  told_after : (effect : Effect)
      → ((draws_on l tile x effect && list_any (nat_eq e) (examined x (is_block effect))) ≡ false → same_value (told d earlier e) (value_in x e) ≡ true)
      → IsToldAfter d l tile earlier x place e effect
  told_after eff.Quiet was = nothing_more (was refl)
  told_after (eff.Refused fault) was = nothing_more (was refl)
  told_after (eff.Block block) was = by (draws_on l tile x (eff.Block block)) was
    where
      by : (b : Bool) → ((b && list_any (nat_eq e) (examined x true)) ≡ false → same_value (told d earlier e) (value_in x e) ≡ true)
          → same_value (told d (earlier ++ (if b then record { place = place; sets = sets_for (told d earlier) x true; act = act.Draw block } ∷ [] else [])) e) (value_in x e) ≡ true
      by true was = with_sets (record { place = place; sets = sets_for (told d earlier) x true; act = act.Draw block }) true refl was
      by false was = nothing_more (was refl)
  told_after (eff.Clear mask) was = by (draws_on l tile x (eff.Clear mask)) was
    where
      by : (b : Bool) → ((b && list_any (nat_eq e) (examined x false)) ≡ false → same_value (told d earlier e) (value_in x e) ≡ true)
          → same_value (told d (earlier ++ (if b then record { place = place; sets = sets_for (told d earlier) x false; act = act.Clear mask } ∷ [] else [])) e) (value_in x e) ≡ true
      by true was = with_sets (record { place = place; sets = sets_for (told d earlier) x false; act = act.Clear mask }) false refl was
      by false was = nothing_more (was refl)
  told_after (eff.Shared part) was = no_sets (record { place = place; sets = []; act = act.Shared part }) refl (was refl)
  told_after (eff.Sync op) was = no_sets (record { place = place; sets = []; act = act.Sync op }) refl (was refl)

pub not_pending : (scene : Scene) (l : Layout) (client tile place e : ℕ) → e < element_count → is_pending scene l client tile place e ≡ false
    → same_value (told scene.decl (parcels_before scene l client tile place) e) (value_in (context_after scene client place) e) ≡ true
unfolding is_pending parcels_before told
not_pending scene l client tile zero e lt none =
    ap (same_value (default_value scene.decl e)) (begins_with_defaults scene client e) ∙ same_itself (default_value scene.decl e)
not_pending scene l client tile (suc n) e lt none =
    let both = or_parts (marks_at scene client n e) (is_pending scene l client tile n e && not (examines_at scene l client tile n e)) none in
    let x = context_after scene client n in
    let earlier = parcels_before scene l client tile n in
    ap (same_value (told scene.decl (earlier ++ parcels_at scene l client tile n earlier) e)) (value_stays scene client n e both.0)
    ∙ told_after scene.decl l tile earlier x n e (effect_at scene client n)
    (λ not_examined. not_pending scene l client tile n e lt (was_not (is_pending scene l client tile n e) (examines_at scene l client tile n e) both.1 not_examined))
  where
    was_not : (a b : Bool) → (a && not b) ≡ false → b ≡ false → a ≡ false
    was_not false b none off = refl
    was_not true true none off = off
    was_not true false none off = none
