-- The parcels of a client to a tile stand at rising places, and End is the last of them.
use Rattle.std.proofs.Common.{◌≡◌, ◌≢◌, ◌∙◌, ℕ, zero, suc, ◌⊎◌, Bool, true, false, List, [], ◌∷◌, ◌++◌, length, inl, inr, refl, sym, ap, subst, arith, append-nil}
use Rattle.std.specs.Prelude.{if◌then◌else◌}
use Rattle.rc_base.specs.Lists.{AreRising}
use Rattle.rc_base.specs.Contexts.Context.{ClientContext}
use Rattle.rc_base.specs.Contexts.Issue.{stream_of, context_after, effect_at}
use Rattle.rc_base.specs.Cluster.Parcels.{told, draws_on, sets_for, parcel_of, parcels_at, parcels_before, parcels_of}
use Rattle.rc_base.specs.declared.scene.Scene.{Scene}
use Rattle.rc_base.specs.declared.state.Act.TheVariants as act
use Rattle.rc_base.specs.declared.state.Effect.{Effect}
use Rattle.rc_base.specs.declared.state.Effect.TheVariants as eff
use Rattle.rc_base.specs.declared.state.ElementValue.{ElementValue}
use Rattle.rc_base.specs.declared.state.Parcel.{Parcel}
use Rattle.rc_base.specs.declared.window.Layout.{Layout}
use Rattle.scene_lemmas.proofs.Numbered.{rising_further, rising_push}
use Rattle.client_issue.specs.Laws.{places, AreCommands, EndsLast}

-- a command gives no parcel, or one at its place that isn't End
record IsGiven (place : ℕ) (ps : List Parcel) : Type 0 where
  places_are : (places ps ≡ []) ⊎ (places ps ≡ place ∷ [])
  commands : AreCommands ps

none : (place : ℕ) → IsGiven place []
none place = record { places_are = inl refl; commands = tt }

one : (place : ℕ) (p : Parcel) → p.place ≡ place → p.act ≢ act.End → IsGiven place (p ∷ [])
one place p e off = record { places_are = inr (ap (λ (k : ℕ). k ∷ []) e); commands = (off, tt) }

chosen : (b : Bool) (place : ℕ) (p : Parcel) → p.place ≡ place → p.act ≢ act.End → IsGiven place (if b then p ∷ [] else [])
chosen true place p e off = one place p e off
chosen false place p e off = none place

gives : (l : Layout) (tile : ℕ) (values : ℕ → ElementValue) (x : ClientContext) (place : ℕ) (effect : Effect) → IsGiven place (parcel_of l tile values x place effect)
gives l tile values x place eff.Quiet = none place
gives l tile values x place (eff.Refused fault) = none place
gives l tile values x place (eff.Block block) =
    chosen (draws_on l tile x (eff.Block block)) place (record { place = place; sets = sets_for values x true; act = act.Draw block }) refl (λ e. absurd cc)
gives l tile values x place (eff.Clear mask) =
    chosen (draws_on l tile x (eff.Clear mask)) place (record { place = place; sets = sets_for values x false; act = act.Clear mask }) refl (λ e. absurd cc)
gives l tile values x place (eff.Shared part) = one place (record { place = place; sets = []; act = act.Shared part }) refl (λ e. absurd cc)
gives l tile values x place (eff.Sync op) = one place (record { place = place; sets = []; act = act.Sync op }) refl (λ e. absurd cc)

-- ---- rising numbers, and the number at their end

risen : (ns more : List ℕ) (n : ℕ) → (more ≡ []) ⊎ (more ≡ n ∷ []) → AreRising 0 ns n → AreRising 0 (ns ++ more) (suc n)
risen ns more n (inl e) h = subst (λ (ms : List ℕ). AreRising 0 ms (suc n)) (sym (ap (λ (ks : List ℕ). ns ++ ks) e ∙ append-nil ns)) (rising_further 0 ns n h)
risen ns more n (inr e) h = subst (λ (ms : List ℕ). AreRising 0 ms (suc n)) (sym (ap (λ (ks : List ℕ). ns ++ ks) e)) (rising_push 0 ns n h)

places_of_both : (xs ys : List Parcel) → places (xs ++ ys) ≡ places xs ++ places ys
places_of_both [] ys = refl
places_of_both (p ∷ xs) ys = ap (λ (ns : List ℕ). p.place ∷ ns) (places_of_both xs ys)

commands_both : (xs ys : List Parcel) → AreCommands xs → AreCommands ys → AreCommands (xs ++ ys)
commands_both [] ys a b = b
commands_both (p ∷ xs) ys a b = (a.0, commands_both xs ys a.1 b)

-- ---- the parcels of a client's commands

module _ (scene : Scene) (l : Layout) (client tile : ℕ) where
  given : (n : ℕ) → IsGiven n (parcels_at scene l client tile n (parcels_before scene l client tile n))
  given n = gives l tile (told scene.decl (parcels_before scene l client tile n)) (context_after scene client n) n (effect_at scene client n)

  rising : (n : ℕ) → AreRising 0 (places (parcels_before scene l client tile n)) n
  unfolding parcels_before
  rising zero = omega arith
  rising (suc n) =
      let earlier = parcels_before scene l client tile n in
      let here = parcels_at scene l client tile n earlier in
      let g : IsGiven n here = given n in
      subst (λ (ms : List ℕ). AreRising 0 ms (suc n)) (sym (places_of_both earlier here)) (risen (places earlier) (places here) n g.places_are (rising n))

  commands : (n : ℕ) → AreCommands (parcels_before scene l client tile n)
  unfolding parcels_before
  commands zero = tt
  commands (suc n) =
      let earlier = parcels_before scene l client tile n in
      let g : IsGiven n (parcels_at scene l client tile n earlier) = given n in
      commands_both earlier (parcels_at scene l client tile n earlier) (commands n) g.commands

  pub ends_last : EndsLast scene l client tile
  unfolding parcels_of
  ends_last =
      let n = length (stream_of scene client) in
      record {
        before = parcels_before scene l client tile n;
        whole = refl;
        rising = rising n;
        commands = commands n;
      }

pub ends : (scene : Scene) (l : Layout) (client tile : ℕ) → EndsLast scene l client tile
ends scene l client tile = ends_last scene l client tile
