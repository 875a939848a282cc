-- The command of a parcel, and the parcels before it.
use Rattle.std.proofs.Common.{◌≡◌, ℕ, zero, suc, ◌≤◌, true, false, List, [], ◌∷◌, ◌++◌, ◌⊎◌, take, drop, length, Some, slice_get, inl, inr, refl, sym, ap, ◌∙◌, subst, arith, true≢false}
use Rattle.std.proofs.lemmas.Bool.{cases_Bool}
use Rattle.rc_base.specs.Contexts.Context.{ClientContext}
use Rattle.rc_base.specs.Contexts.Issue.{stream_of, context_after, effect_at}
use Rattle.rc_base.specs.Cluster.Parcels.{told, sets_for, draws_on, effect_by, parcel_of, parcels_at, parcels_before, parcels_of, end_parcel}
use Rattle.rc_base.specs.declared.scene.Scene.{Scene}
use Rattle.rc_base.specs.declared.state.Act.{Act}
use Rattle.rc_base.specs.declared.state.Act.TheVariants as act
use Rattle.rc_base.specs.declared.state.Effect.{Effect}
use Rattle.rc_base.specs.declared.state.Effect.TheVariants as eff
use Rattle.rc_base.specs.declared.state.ElementSet.{ElementSet}
use Rattle.rc_base.specs.declared.state.ElementValue.{ElementValue}
use Rattle.rc_base.specs.declared.state.Parcel.{Parcel}
use Rattle.rc_base.specs.declared.window.Layout.{Layout}
use Rattle.tile_model.specs.Acts.{is_work}
use Rattle.tile_model.proofs.NextInLists.{next_is}
use Rattle.tile_model.proofs.ParcelsAreJobs.{few_given}

-- ---- what a command makes

-- the sets of a parcel, by its act
abbrev pub sets_by : (ℕ → ElementValue) → ClientContext → Act → List ElementSet
sets_by values x (act.Draw block) = sets_for values x true
sets_by values x (act.Clear mask) = sets_for values x false
sets_by values x (act.Shared part) = []
sets_by values x (act.Sync op) = []
sets_by values x act.End = []

pub record IsMade (values : ℕ → ElementValue) (x : ClientContext) (n : ℕ) (effect : Effect) (p : Parcel) : Type 0 where
  pub place : p.place ≡ n
  pub act : effect_by p.act ≡ effect
  pub sets : p.sets ≡ sets_by values x p.act

-- by what it is
is_made : (values : ℕ → ElementValue) (x : ClientContext) (n : ℕ) (effect : Effect) (q p : Parcel) → q ≡ p → IsMade values x n effect q → IsMade values x n effect p
is_made values x n effect q p e h = subst (IsMade values x n effect) e h

made_by : (l : Layout) (tile : ℕ) (values : ℕ → ElementValue) (x : ClientContext) (n : ℕ) (effect : Effect) (p : Parcel) → parcel_of l tile values x n effect ≡ p ∷ []
    → IsMade values x n effect p
made_by l tile values x n (eff.Block b) p e = elim (cases_Bool (draws_on l tile x (eff.Block b))) [
  | inl t ↦
      let q : Parcel = record { place = n; sets = sets_for values x true; act = act.Draw b } in
      let f : q ∷ [] ≡ p ∷ [] = rw t at e in
      is_made values x n (eff.Block b) q p (cc) (record { place = refl; act = refl; sets = refl })
  | inr f ↦ absurd (cc (rw f at e))
]
made_by l tile values x n (eff.Clear m) p e = elim (cases_Bool (draws_on l tile x (eff.Clear m))) [
  | inl t ↦
      let q : Parcel = record { place = n; sets = sets_for values x false; act = act.Clear m } in
      let f : q ∷ [] ≡ p ∷ [] = rw t at e in
      is_made values x n (eff.Clear m) q p (cc) (record { place = refl; act = refl; sets = refl })
  | inr f ↦ absurd (cc (rw f at e))
]
made_by l tile values x n (eff.Shared part) p e =
    let q : Parcel = record { place = n; sets = []; act = act.Shared part } in
    let f : q ∷ [] ≡ p ∷ [] = e in
    is_made values x n (eff.Shared part) q p (cc) (record { place = refl; act = refl; sets = refl })
made_by l tile values x n (eff.Sync op) p e =
    let q : Parcel = record { place = n; sets = []; act = act.Sync op } in
    let f : q ∷ [] ≡ p ∷ [] = e in
    is_made values x n (eff.Sync op) q p (cc) (record { place = refl; act = refl; sets = refl })
made_by l tile values x n eff.Quiet p e = absurd cc
made_by l tile values x n (eff.Refused g) p e = absurd cc

pub command_makes : (scene : Scene) (l : Layout) (client tile n : ℕ) (earlier : List Parcel) (p : Parcel) → parcels_at scene l client tile n earlier ≡ p ∷ []
    → IsMade (told scene.decl earlier) (context_after scene client n) n (effect_at scene client n) p
command_makes scene l client tile n earlier p e = made_by l tile (told scene.decl earlier) (context_after scene client n) n (effect_at scene client n) p e

-- ---- the command of a parcel

-- of two lists put together, the second with one element at most, where an element stands
split : {A : Type 0} (xs ys : List A) (k : ℕ) (x : A) (rest : List A) → drop k (xs ++ ys) ≡ x ∷ rest → length ys ≤ 1
    → ((more : List A) × (drop k xs ≡ x ∷ more) × (take k (xs ++ ys) ≡ take k xs)) ⊎ ((ys ≡ x ∷ []) × (take k (xs ++ ys) ≡ xs))
split [] [] zero x rest e few = absurd cc
split [] [] (suc k) x rest e few = absurd cc
split [] (y ∷ []) zero x rest e few = let f : y ≡ x = cc in inr (ap (λ z. z ∷ []) f, refl)
split [] (y ∷ []) (suc k) x rest e few = absurd (let f : drop k [] ≡ x ∷ rest = e in none_dropped k x rest f)
  where
    none_dropped : {A : Type 0} (k : ℕ) (x : A) (rest : List A) → drop {A = A} k [] ≡ x ∷ rest → ⊥
    none_dropped zero x rest e = cc
    none_dropped (suc k) x rest e = cc
split [] (y ∷ z ∷ ys) k x rest e few = absurd (omega arith)
split (z ∷ xs) ys zero x rest e few = let f : z ≡ x = cc in inl (xs, ap (λ w. w ∷ xs) f, refl)
split (z ∷ xs) ys (suc k) x rest e few = elim (split xs ys k x rest e few) [
  | inl w ↦ inl (w.0, w.1, ap (λ l. z ∷ l) w.2)
  | inr w ↦ inr (w.0, ap (λ l. z ∷ l) w.1)
]

-- the parcels before it are those of the commands before its own
pub record IsOfCommand (scene : Scene) (l : Layout) (client tile count : ℕ) (parcels : List Parcel) (p : Parcel) : Type 0 where
  pub before : take count parcels ≡ parcels_before scene l client tile p.place
  pub made : parcels_at scene l client tile p.place (parcels_before scene l client tile p.place) ≡ p ∷ []

of_command : (scene : Scene) (l : Layout) (client tile n count : ℕ) (p : Parcel) (rest : List Parcel) → drop count (parcels_before scene l client tile n) ≡ p ∷ rest
    → IsOfCommand scene l client tile count (parcels_before scene l client tile n) p
unfolding parcels_before
of_command scene l client tile zero zero p rest e = absurd cc
of_command scene l client tile zero (suc count) p rest e = absurd cc
of_command scene l client tile (suc n) count p rest e =
    let earlier = parcels_before scene l client tile n in
    let qs = parcels_at scene l client tile n earlier in
    elim (split earlier qs count p rest e (few_given scene l client tile n earlier)) [
      | inl w ↦ let h = of_command scene l client tile n count p w.0 w.1 in record { before = w.2 ∙ h.before; made = h.made }
      | inr w ↦
          let at : n ≡ p.place = sym (command_makes scene l client tile n earlier p w.0).place in
          record {
            before = w.1 ∙ ap (parcels_before scene l client tile) at;
            made = subst (λ k. parcels_at scene l client tile k (parcels_before scene l client tile k) ≡ p ∷ []) at w.0;
          }
    ]

pub of_command_or_end : (scene : Scene) (l : Layout) (client tile count : ℕ) (p : Parcel) → slice_get (parcels_of scene l client tile) count ≡ Some p
    → IsOfCommand scene l client tile count (parcels_of scene l client tile) p ⊎ (end_parcel (length (stream_of scene client)) ≡ p)
unfolding parcels_of
of_command_or_end scene l client tile count p is =
    let n = length (stream_of scene client) in
    let next = next_is (parcels_of scene l client tile) count p is in
    elim (split (parcels_before scene l client tile n) (end_parcel n ∷ []) count p next.0 next.1 (omega arith)) [
      | inl w ↦ let h = of_command scene l client tile n count p w.0 w.1 in inl (record { before = w.2 ∙ h.before; made = h.made })
      | inr w ↦ inr (let f = w.0 in cc)
    ]

-- one that isn't End
pub command_of : (scene : Scene) (l : Layout) (client tile count : ℕ) (p : Parcel) → slice_get (parcels_of scene l client tile) count ≡ Some p → is_work p.act ≡ true
    → IsOfCommand scene l client tile count (parcels_of scene l client tile) p
command_of scene l client tile count p is work = elim (of_command_or_end scene l client tile count p is) [
  | inl c ↦ c
  | inr same ↦ absurd (true≢false (sym work ∙ ap (λ (q : Parcel). is_work q.act) (sym same)))
]
