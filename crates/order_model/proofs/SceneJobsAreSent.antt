-- What a tile gets of each client of a scene: its jobs rise, and its operations are the client's.
use Rattle.std.proofs.Common.{◌≡◌, ℕ, zero, suc, ◌≤◌, Bool, true, false, List, [], ◌∷◌, ◌++◌, length, map, inl, inr, refl, sym, ap, ◌∙◌, subst, arith, append-nil, ◌⊎◌}
use Rattle.std.specs.Prelude.{if◌then◌else◌}
use Rattle.std.proofs.lemmas.Bool.{cases_lt}
use Rattle.std.proofs.lemmas.Grind.{flat_map-append}
use Rattle.std.proofs.lemmas.List.{map-append, get_or_past}
use Rattle.std.specs.List.{flat_map}
use Rattle.rc_base.specs.Lists.{AreRising}
use Rattle.rc_base.specs.Contexts.Context.{ClientContext}
use Rattle.rc_base.specs.Contexts.Issue.{effect_at, stream_of, context_after}
use Rattle.rc_base.specs.Orders.Sync.{ops_of, length_of, wait_of, waits_below, sync_lists_of, places_of}
use Rattle.rc_base.specs.Cluster.Parcels.{told, parcel_of, parcels_at, parcels_before, parcels_of, end_parcel, draws_on}
use Rattle.rc_base.specs.declared.scene.Scene.{Scene}
use Rattle.rc_base.specs.declared.state.Effect.{Effect}
use Rattle.rc_base.specs.declared.state.Effect.TheVariants as eff
use Rattle.rc_base.specs.declared.state.ElementValue.{ElementValue}
use Rattle.rc_base.specs.declared.state.Parcel.{Parcel}
use Rattle.rc_base.specs.declared.sync.SyncOp.{SyncOp}
use Rattle.rc_base.specs.declared.sync.SyncRow.{SyncRow}
use Rattle.rc_base.specs.declared.sync.WaitAt.{WaitAt}
use Rattle.rc_base.specs.declared.window.Layout.{Layout}
use Rattle.scene_lemmas.proofs.Scenes.{scene_client_count}
use Rattle.order_model.specs.Log.{Job, waits_in, AreJobsOf, job_place}
use Rattle.order_model.specs.Log.Job.{Work, Wait}
use Rattle.order_model.specs.Sent.{job_of, jobs_of}
use Rattle.order_model.proofs.ClientsBeyond.{ops_past, length_past}
use Rattle.order_model.proofs.RisingNumbers.{rising_with}
use Rattle.order_model.proofs.SceneListsAreWellFormed.{scene_row}

-- at most one job, at place n, and an operation exactly where the effect is one
data Gives (n : ℕ) (js : List Job) (ws : List WaitAt) : Type 0 where
  Nothing : js ≡ [] → ws ≡ [] → Gives n js ws
  Drawn : js ≡ Work n ∷ [] → ws ≡ [] → Gives n js ws
  Synced : (op : SyncOp) → js ≡ Wait n ∷ [] → ws ≡ record { place = n; op = op } ∷ [] → Gives n js ws

by_test : (b : Bool) (n : ℕ) (p : Parcel) → job_of p ≡ Work n ∷ [] → Gives n (flat_map job_of (if b then p ∷ [] else [])) []
by_test true n p h = Drawn (append-nil (job_of p) ∙ h) refl
by_test false n p h = Nothing refl refl

job_given : (l : Layout) (tile : ℕ) (values : ℕ → ElementValue) (x : ClientContext) (n : ℕ) (e : Effect)
    → Gives n (flat_map job_of (parcel_of l tile values x n e)) (wait_of n e)
job_given l tile values x n (eff.Block b) = by_test (draws_on l tile x (eff.Block b)) n _ refl
job_given l tile values x n (eff.Clear m) = by_test (draws_on l tile x (eff.Clear m)) n _ refl
job_given l tile values x n (eff.Shared t) = Drawn refl refl
job_given l tile values x n (eff.Sync op) = Synced op refl refl
job_given l tile values x n eff.Quiet = Nothing refl refl
job_given l tile values x n (eff.Refused f) = Nothing refl refl

job_at : (scene : Scene) (l : Layout) (client tile n : ℕ)
    → Gives n (flat_map job_of (parcels_at scene l client tile n (parcels_before scene l client tile n))) (wait_of n (effect_at scene client n))
job_at scene l client tile n =
    job_given l tile (told scene.decl (parcels_before scene l client tile n)) (context_after scene client n) n (effect_at scene client n)

one_or_none : (n : ℕ) (js : List Job) (ws : List WaitAt) → Gives n js ws → (map job_place js ≡ []) ⊎ (map job_place js ≡ n ∷ [])
one_or_none n js ws (Nothing e f) = inl (ap (map job_place) e)
one_or_none n js ws (Drawn e f) = inr (ap (map job_place) e)
one_or_none n js ws (Synced op e f) = inr (ap (map job_place) e)

waits_append : (js more : List Job) → waits_in (js ++ more) ≡ waits_in js ++ waits_in more
waits_append [] more = refl
waits_append (Work p ∷ js) more = waits_append js more
waits_append (Wait p ∷ js) more = ap (λ xs. p ∷ xs) (waits_append js more)

same_waits : (n : ℕ) (more : List Job) (ws : List WaitAt) → Gives n more ws → waits_in more ≡ places_of ws
same_waits n more ws (Nothing e f) = ap waits_in e ∙ sym (ap places_of f)
same_waits n more ws (Drawn e f) = ap waits_in e ∙ sym (ap places_of f)
same_waits n more ws (Synced op e f) = ap waits_in e ∙ sym (ap places_of f)

jobs_rise : (scene : Scene) (l : Layout) (client tile n : ℕ) → AreRising 0 (map job_place (flat_map job_of (parcels_before scene l client tile n))) n
unfolding parcels_before
jobs_rise scene l client tile zero = omega arith
jobs_rise scene l client tile (suc n) =
    let earlier = parcels_before scene l client tile n in
    let new = parcels_at scene l client tile n earlier in
    subst (λ ns. AreRising 0 ns (suc n)) (sym (ap (map job_place) (flat_map-append job_of earlier new) ∙ map-append job_place (flat_map job_of earlier) (flat_map job_of new)))
    (rising_with 0 (map job_place (flat_map job_of earlier)) (map job_place (flat_map job_of new)) n
    (one_or_none n (flat_map job_of new) (wait_of n (effect_at scene client n)) (job_at scene l client tile n)) (jobs_rise scene l client tile n))

waits_agree : (scene : Scene) (l : Layout) (client tile n : ℕ) → waits_in (flat_map job_of (parcels_before scene l client tile n)) ≡ places_of (waits_below scene client n)
unfolding parcels_before waits_below
waits_agree scene l client tile zero = refl
waits_agree scene l client tile (suc n) =
    let earlier = parcels_before scene l client tile n in
    let new = parcels_at scene l client tile n earlier in
    ap waits_in (flat_map-append job_of earlier new) ∙ waits_append (flat_map job_of earlier) (flat_map job_of new)
    ∙ ap (λ xs. xs ++ waits_in (flat_map job_of new)) (waits_agree scene l client tile n)
    ∙ ap (λ xs. places_of (waits_below scene client n) ++ xs) (same_waits n (flat_map job_of new) (wait_of n (effect_at scene client n)) (job_at scene l client tile n))
    ∙ sym (map-append (λ (w : WaitAt). w.place) (waits_below scene client n) (wait_of n (effect_at scene client n)))

pub jobs_are : (scene : Scene) (l : Layout) (client tile : ℕ) → jobs_of scene l client tile ≡ flat_map job_of (parcels_before scene l client tile (length (stream_of scene client)))
unfolding jobs_of parcels_of
jobs_are scene l client tile =
    let n = length (stream_of scene client) in
    flat_map-append job_of (parcels_before scene l client tile n) (end_parcel n ∷ []) ∙ append-nil (flat_map job_of (parcels_before scene l client tile n))

no_stream : (scene : Scene) (client : ℕ) → length scene.streams ≤ client → length (stream_of scene client) ≡ 0
no_stream scene client le = ap length (get_or_past scene.streams client [] le)

length_is : (scene : Scene) (client : ℕ) → length (stream_of scene client) ≡ length_of (sync_lists_of scene) client
length_is scene client = elim (cases_lt client (length scene.streams)) [
  | inl lt ↦ sym (ap (λ (r : SyncRow). r.length) (scene_row scene client lt))
  | inr ge ↦ no_stream scene client ge ∙ sym (length_past (sync_lists_of scene) client (omega (arith, scene_client_count scene, ge)))
]

pub ops_are : (scene : Scene) (client : ℕ) → ops_of (sync_lists_of scene) client ≡ waits_below scene client (length (stream_of scene client))
unfolding waits_below
ops_are scene client = elim (cases_lt client (length scene.streams)) [
  | inl lt ↦ ap (λ (r : SyncRow). r.ops) (scene_row scene client lt)
  | inr ge ↦ ops_past (sync_lists_of scene) client (omega (arith, scene_client_count scene, ge)) ∙ ap (waits_below scene client) (sym (no_stream scene client ge))
]

pub scene_jobs_are_sent : (scene : Scene) (l : Layout) (tile : ℕ) → AreJobsOf (sync_lists_of scene) (λ client. jobs_of scene l client tile)
scene_jobs_are_sent scene l tile = record {
  rising = λ c.
      let n = length (stream_of scene c) in
      subst (λ k. AreRising 0 (map job_place (jobs_of scene l c tile)) k) (length_is scene c)
      (subst (λ js. AreRising 0 (map job_place js) n) (sym (jobs_are scene l c tile)) (jobs_rise scene l c tile n));
  all = λ c.
      let n = length (stream_of scene c) in
      ap waits_in (jobs_are scene l c tile) ∙ waits_agree scene l c tile n ∙ ap places_of (sym (ops_are scene c));
}
