-- Which jobs are left behind the names that a log has added.
use Rattle.std.proofs.Common.{◌≡◌, ℕ, zero, suc, ◌+◌, ◌-◌, ◌<◌, ◌≤◌, ◌==◌, false, cond, List, [], ◌∷◌, ◌++◌, drop, length, max, Some, inl, inr, refl, sym, ap, ◌∙◌, subst, arith, eqb-true, append_assoc, append-nil}
use Rattle.std.specs.Prelude.{is_some, ◌⊎◌, ◌≢◌}
use Rattle.std.specs.List.{flat_map}
use Rattle.std.proofs.lemmas.Bool.{cases_Bool}
use Rattle.std.proofs.lemmas.Grind.{flat_map-append}
use native.Mathlib.Decide.{ℕ_discrete}
use mathlib.Core.Logic.{dite}
use Rattle.rc_base.specs.Contexts.Context.{ClientContext}
use Rattle.rc_base.specs.Contexts.Issue.{stream_of, context_after, effect_at}
use Rattle.rc_base.specs.Orders.Journal.{SyncState, is_member, IsLawful, stop}
use Rattle.rc_base.specs.Orders.Order.{names_in, added, entry_at, performed}
use Rattle.rc_base.specs.Orders.Sync.{client_count, sync_lists_of}
use Rattle.rc_base.specs.Cluster.Parcels.{told, draws_on, parcel_of, parcels_at, parcels_before}
use Rattle.rc_base.specs.declared.scene.Scene.{Scene}
use Rattle.rc_base.specs.declared.state.Effect.{Effect}
use Rattle.rc_base.specs.declared.state.Effect.TheVariants as eff
use Rattle.rc_base.specs.declared.state.ElementValue.{ElementValue}
use Rattle.rc_base.specs.declared.sync.Entry.{Entry}
use Rattle.rc_base.specs.declared.sync.Name.{Name}
use Rattle.rc_base.specs.declared.sync.SyncLists.{SyncLists}
use Rattle.rc_base.specs.declared.window.Layout.{Layout}
use Rattle.order_model.specs.Laws.{AreOfClients}
use Rattle.order_model.specs.Log.{Job, IsNext, without}
use Rattle.order_model.specs.Log.Job.{Work, Wait}
use Rattle.order_model.specs.Sent.{job_of, jobs_of}
use Rattle.order_model.proofs.AddedNames.{stretch_tracks, spread_is, spread_tracks}
use Rattle.order_model.proofs.OrdersBySteps.{behind, passed_by, spread}
use Rattle.order_model.proofs.RecordedOrdersArePermitted.{jobs_without}
use Rattle.order_model.proofs.SceneJobsAreSent.{jobs_are}
use Rattle.order_model.proofs.StepsArePermitted.{member_place, performed_past}
use Rattle.tile_model.proofs.IdleNamesChangeNothing.{works_on, IsIdle}
use Rattle.tile_model.proofs.LogsGoOn.{GoesOn}

-- what one command gives a tile
abbrev pub jobs_by : Layout → ℕ → ClientContext → ℕ → Effect → List Job
jobs_by l tile x n (eff.Block b) = cond (works_on l tile x (eff.Block b)) (Work n ∷ []) []
jobs_by l tile x n (eff.Clear m) = cond (works_on l tile x (eff.Clear m)) (Work n ∷ []) []
jobs_by l tile x n (eff.Shared p) = Work n ∷ []
jobs_by l tile x n (eff.Sync op) = Wait n ∷ []
jobs_by l tile x n (eff.Quiet) = []
jobs_by l tile x n (eff.Refused f) = []

abbrev pub jobs_at : Scene → Layout → ℕ → ℕ → ℕ → List Job
jobs_at scene l client tile n = jobs_by l tile (context_after scene client n) n (effect_at scene client n)

-- what n commands from a place on give
abbrev pub jobs_from : Scene → Layout → ℕ → ℕ → ℕ → ℕ → List Job
jobs_from scene l client tile a zero = []
jobs_from scene l client tile a (suc n) = jobs_at scene l client tile a ++ jobs_from scene l client tile (a + 1) n

by_parcel : (l : Layout) (tile : ℕ) (values : ℕ → ElementValue) (x : ClientContext) (n : ℕ) (effect : Effect) → flat_map job_of (parcel_of l tile values x n effect) ≡ jobs_by l tile x n effect
by_parcel l tile values x n (eff.Block b) = elim (cases_Bool (draws_on l tile x (eff.Block b))) [ inl t ↦ rw t refl | inr f ↦ rw f refl ]
by_parcel l tile values x n (eff.Clear m) = elim (cases_Bool (draws_on l tile x (eff.Clear m))) [ inl t ↦ rw t refl | inr f ↦ rw f refl ]
by_parcel l tile values x n (eff.Shared p) = refl
by_parcel l tile values x n (eff.Sync op) = refl
by_parcel l tile values x n (eff.Quiet) = refl
by_parcel l tile values x n (eff.Refused f) = refl

from_push : (scene : Scene) (l : Layout) (client tile a n : ℕ) → jobs_from scene l client tile a (suc n) ≡ jobs_from scene l client tile a n ++ jobs_at scene l client tile (a + n)
from_push scene l client tile a zero = let e : a + 0 ≡ a = omega arith in rw e (append-nil (jobs_at scene l client tile a))
from_push scene l client tile a (suc n) =
    let e : a + 1 + n ≡ a + suc n = omega arith in
    ap (λ js. jobs_at scene l client tile a ++ js) (from_push scene l client tile (a + 1) n ∙ ap (λ k. jobs_from scene l client tile (a + 1) n ++ jobs_at scene l client tile k) e)
    ∙ sym (append_assoc (jobs_at scene l client tile a) (jobs_from scene l client tile (a + 1) n) (jobs_at scene l client tile (a + suc n)))

before_is : (scene : Scene) (l : Layout) (client tile n : ℕ) → flat_map job_of (parcels_before scene l client tile n) ≡ jobs_from scene l client tile 0 n
unfolding parcels_before
before_is scene l client tile zero = refl
before_is scene l client tile (suc n) =
    let earlier = parcels_before scene l client tile n in
    let new = parcels_at scene l client tile n earlier in
    let e : 0 + n ≡ n = omega arith in
    flat_map-append job_of earlier new
    ∙ ap (λ js. js ++ flat_map job_of new) (before_is scene l client tile n)
    ∙ ap (λ js. jobs_from scene l client tile 0 n ++ js) (by_parcel l tile (told scene.decl earlier) (context_after scene client n) n (effect_at scene client n))
    ∙ ap (λ k. jobs_from scene l client tile 0 n ++ jobs_at scene l client tile k) (sym e)
    ∙ sym (from_push scene l client tile 0 n)

-- all of them
all_from : (scene : Scene) (l : Layout) (client tile : ℕ) → jobs_of scene l client tile ≡ jobs_from scene l client tile 0 (length (stream_of scene client))
all_from scene l client tile = jobs_are scene l client tile ∙ before_is scene l client tile (length (stream_of scene client))

-- ---- the first of them

-- what is known of a command by what it gives
pub data GivesOne (scene : Scene) (l : Layout) (client tile n : ℕ) : Type 0 where
  GivesNone : jobs_at scene l client tile n ≡ [] → IsIdle scene l tile (record { client = client; place = n }) → GivesOne scene l client tile n
  GivesWork : jobs_at scene l client tile n ≡ Work n ∷ [] → GivesOne scene l client tile n
  GivesWait : jobs_at scene l client tile n ≡ Wait n ∷ [] → IsIdle scene l tile (record { client = client; place = n }) → GivesOne scene l client tile n

gives_by : (l : Layout) (tile : ℕ) (x : ClientContext) (n : ℕ) (effect : Effect) → ((jobs_by l tile x n effect ≡ []) × (works_on l tile x effect ≡ false)) ⊎ ((jobs_by l tile x n effect ≡ Work n ∷ []) ⊎ ((jobs_by l tile x n effect ≡ Wait n ∷ []) × (works_on l tile x effect ≡ false)))
gives_by l tile x n (eff.Block b) = elim (cases_Bool (works_on l tile x (eff.Block b))) [ inl t ↦ inr (inl (rw t refl)) | inr f ↦ inl (rw f refl, f) ]
gives_by l tile x n (eff.Clear m) = elim (cases_Bool (works_on l tile x (eff.Clear m))) [ inl t ↦ inr (inl (rw t refl)) | inr f ↦ inl (rw f refl, f) ]
gives_by l tile x n (eff.Shared p) = inr (inl refl)
gives_by l tile x n (eff.Sync op) = inr (inr (refl, refl))
gives_by l tile x n (eff.Quiet) = inl (refl, refl)
gives_by l tile x n (eff.Refused f) = inl (refl, refl)

gives_one : (scene : Scene) (l : Layout) (client tile n : ℕ) → GivesOne scene l client tile n
gives_one scene l client tile n = elim (gives_by l tile (context_after scene client n) n (effect_at scene client n)) [
  | inl w ↦ GivesNone w.0 w.1
  | inr (inl w) ↦ GivesWork w
  | inr (inr w) ↦ GivesWait w.0 w.1
]

-- the first job is of a place below which nothing is left, and the others are those behind it
pub record IsFirst (scene : Scene) (l : Layout) (client tile a n place : ℕ) (rest : List Job) : Type 0 where
  pub low : a ≤ place
  pub high : place < a + n
  pub idle : (k : ℕ) → a ≤ k → k < place → IsIdle scene l tile (record { client = client; place = k })
  pub others : rest ≡ jobs_from scene l client tile (place + 1) (a + n - (place + 1))

first_here : (scene : Scene) (l : Layout) (client tile a n place : ℕ) (rest : List Job) → a ≡ place → jobs_from scene l client tile (a + 1) n ≡ rest → IsFirst scene l client tile a (suc n) place rest
first_here scene l client tile a n place rest e f = record {
  low = omega arith;
  high = omega arith;
  idle = λ k low high. absurd (omega arith);
  others = let g : a + 1 ≡ place + 1 = omega arith in let h : n ≡ a + suc n - (place + 1) = omega arith in sym f ∙ ap (λ k. jobs_from scene l client tile k n) g ∙ ap (jobs_from scene l client tile (place + 1)) h;
}

first_later : (scene : Scene) (l : Layout) (client tile a n place : ℕ) (rest : List Job) → IsIdle scene l tile (record { client = client; place = a }) → IsFirst scene l client tile (a + 1) n place rest → IsFirst scene l client tile a (suc n) place rest
first_later scene l client tile a n place rest here h = record {
  low = omega (arith, h.low);
  high = omega (arith, h.high);
  idle = λ k low high. dite (ℕ_discrete k a) (λ (e : k ≡ a). subst (λ j. IsIdle scene l tile (record { client = client; place = j })) (sym e) here) (λ (ne : k ≢ a). h.idle k (omega arith) high);
  others = let g : a + 1 + n - (place + 1) ≡ a + suc n - (place + 1) = omega arith in h.others ∙ ap (jobs_from scene l client tile (place + 1)) g;
}

first_work : (scene : Scene) (l : Layout) (client tile a n place : ℕ) (rest : List Job) → jobs_from scene l client tile a n ≡ Work place ∷ rest → IsFirst scene l client tile a n place rest
first_work scene l client tile a zero place rest e = absurd cc
first_work scene l client tile a (suc n) place rest e = elim (gives_one scene l client tile a) [
  | GivesNone j idle ↦ first_later scene l client tile a n place rest idle (first_work scene l client tile (a + 1) n place rest (sym (ap (λ js. js ++ jobs_from scene l client tile (a + 1) n) j) ∙ e))
  | GivesWork j ↦ let f : Work a ∷ jobs_from scene l client tile (a + 1) n ≡ Work place ∷ rest = sym (ap (λ js. js ++ jobs_from scene l client tile (a + 1) n) j) ∙ e in first_here scene l client tile a n place rest (cc) (cc)
  | GivesWait j idle ↦ let f : Wait a ∷ jobs_from scene l client tile (a + 1) n ≡ Work place ∷ rest = sym (ap (λ js. js ++ jobs_from scene l client tile (a + 1) n) j) ∙ e in absurd cc
]

-- of an operation: its own name is idle too
first_wait : (scene : Scene) (l : Layout) (client tile a n place : ℕ) (rest : List Job) → jobs_from scene l client tile a n ≡ Wait place ∷ rest
    → IsFirst scene l client tile a n place rest × IsIdle scene l tile (record { client = client; place = place })
first_wait scene l client tile a zero place rest e = absurd cc
first_wait scene l client tile a (suc n) place rest e = elim (gives_one scene l client tile a) [
  | GivesNone j idle ↦
      let h = first_wait scene l client tile (a + 1) n place rest (sym (ap (λ js. js ++ jobs_from scene l client tile (a + 1) n) j) ∙ e) in
      (first_later scene l client tile a n place rest idle h.0, h.1)
  | GivesWork j ↦ let f : Work a ∷ jobs_from scene l client tile (a + 1) n ≡ Wait place ∷ rest = sym (ap (λ js. js ++ jobs_from scene l client tile (a + 1) n) j) ∙ e in absurd cc
  | GivesWait j idle ↦
      let f : Wait a ∷ jobs_from scene l client tile (a + 1) n ≡ Wait place ∷ rest = sym (ap (λ js. js ++ jobs_from scene l client tile (a + 1) n) j) ∙ e in
      let same : a ≡ place = cc in
      (first_here scene l client tile a n place rest same (cc), subst (λ k. IsIdle scene l tile (record { client = client; place = k })) same idle)
]

-- ---- along a log

-- behind the names that were added, these jobs are left
abbrev pub IsLeft : Scene → Layout → ℕ → List Name → (ℕ → List Job) → Type 0
IsLeft scene l tile order jobs = (c : ℕ) → jobs c ≡ jobs_from scene l c tile (names_in c order) (length (stream_of scene c) - names_in c order)

pub left_first : (scene : Scene) (l : Layout) (tile : ℕ) → IsLeft scene l tile [] (λ client. jobs_of scene l client tile)
left_first scene l tile c = let e : length (stream_of scene c) ≡ length (stream_of scene c) - 0 = omega arith in all_from scene l c tile ∙ ap (jobs_from scene l c tile 0) e

-- the next job of a client, behind its names
pub next_work : (scene : Scene) (l : Layout) (tile : ℕ) (order : List Name) (jobs : ℕ → List Job) (c place : ℕ) → IsLeft scene l tile order jobs → (n : IsNext (jobs c) (Work place))
    → IsFirst scene l c tile (names_in c order) (length (stream_of scene c) - names_in c order) place n.0
next_work scene l tile order jobs c place h n = first_work scene l c tile (names_in c order) (length (stream_of scene c) - names_in c order) place n.0 (sym (h c) ∙ n.1)

pub next_wait : (scene : Scene) (l : Layout) (tile : ℕ) (order : List Name) (jobs : ℕ → List Job) (c place : ℕ) → IsLeft scene l tile order jobs → (n : IsNext (jobs c) (Wait place))
    → IsFirst scene l c tile (names_in c order) (length (stream_of scene c) - names_in c order) place n.0 × IsIdle scene l tile (record { client = c; place = place })
next_wait scene l tile order jobs c place h n = first_wait scene l c tile (names_in c order) (length (stream_of scene c) - names_in c order) place n.0 (sym (h c) ∙ n.1)

-- what is left behind the first job
left_behind : (scene : Scene) (l : Layout) (c tile place : ℕ) (order : List Name) (j : Job) (jobs rest : List Job) → jobs ≡ j ∷ rest → IsFirst scene l c tile (names_in c order) (length (stream_of scene c) - names_in c order) place rest
    → drop 1 jobs ≡ jobs_from scene l c tile (max (names_in c order) (place + 1)) (length (stream_of scene c) - max (names_in c order) (place + 1))
left_behind scene l c tile place order j jobs rest e h =
    let low = h.low in
    let high = h.high in
    let f : max (names_in c order) (place + 1) ≡ place + 1 = omega arith in
    let g : names_in c order + (length (stream_of scene c) - names_in c order) - (place + 1) ≡ length (stream_of scene c) - (place + 1) = omega arith in
    ap (drop 1) e ∙ h.others ∙ ap (jobs_from scene l c tile (place + 1)) g ∙ ap (λ k. jobs_from scene l c tile k (length (stream_of scene c) - k)) (sym f)

left_took : (scene : Scene) (l : Layout) (tile : ℕ) (order : List Name) (jobs : ℕ → List Job) (c place : ℕ) → IsLeft scene l tile order jobs → IsNext (jobs c) (Work place)
    → IsLeft scene l tile (added c (place + 1) order) (without (λ d. d == c) jobs)
left_took scene l tile order jobs c place h n d =
    let tracks = stretch_tracks c (place + 1) order (λ k. names_in k order) (λ k. refl) d in
    elim (cases_Bool (d == c)) [
      | inl t ↦
          let e = eqb-true d c t in
          let tracks' : names_in d (added c (place + 1) order) ≡ max (names_in c order) (place + 1) = rw t at tracks in
          let behind : drop 1 (jobs c) ≡ jobs_from scene l c tile (max (names_in c order) (place + 1)) (length (stream_of scene c) - max (names_in c order) (place + 1))
          = left_behind scene l c tile place order (Work place) (jobs c) n.0 n.1 (next_work scene l tile order jobs c place h n) in
          rw t (ap (λ k. drop 1 (jobs k)) e ∙ behind ∙ ap (λ k. jobs_from scene l k tile (max (names_in c order) (place + 1)) (length (stream_of scene k) - max (names_in c order) (place + 1))) (sym e)
          ∙ ap (λ k. jobs_from scene l d tile k (length (stream_of scene d) - k)) (sym tracks'))
      | inr f ↦
          let tracks' : names_in d (added c (place + 1) order) ≡ names_in d order = rw f at tracks in
          rw f (h d ∙ ap (λ k. jobs_from scene l d tile k (length (stream_of scene d) - k)) (sym tracks'))
    ]

left_performed : (scene : Scene) (l : Layout) (tile : ℕ) (order : List Name) (jobs : ℕ → List Job) (syncs : SyncLists) (s : SyncState) (e : Entry) → IsLeft scene l tile order jobs → AreOfClients syncs s → IsLawful syncs s e
    → ((c place : ℕ) → (entry_at syncs s e).at c ≡ Some place → IsNext (jobs c) (Wait place))
    → IsLeft scene l tile (performed syncs s e order) (without (λ c. is_some ((entry_at syncs s e).at c)) jobs)
left_performed scene l tile order jobs syncs s e h none lawful next d =
    let n = client_count syncs in
    let cursor = λ (k : ℕ). names_in k order in
    let made : performed syncs s e order ≡ order ++ spread (is_member n e) (behind syncs s) cursor n = spread_is (is_member n e) (behind syncs s) cursor n order (λ k. refl) in
    let tracks : names_in d (performed syncs s e order) ≡ passed_by syncs s e cursor d = ap (names_in d) made ∙ spread_tracks (is_member n e) (behind syncs s) cursor n order (λ k. refl) (performed_past syncs s e cursor none lawful) d in
    jobs_without syncs s e lawful jobs d ∙ elim (cases_Bool (is_member n e d)) [
      | inl t ↦
          let place = stop syncs s d in
          let w = next d place (member_place syncs s e lawful d t) in
          let tracks' : names_in d (performed syncs s e order) ≡ max (names_in d order) (place + 1) = tracks ∙ ap (λ b. cond b (max (cursor d) (behind syncs s d)) (cursor d)) t in
          rw t (left_behind scene l d tile place order (Wait place) (jobs d) w.0 w.1 (next_wait scene l tile order jobs d place h w).0
          ∙ ap (λ k. jobs_from scene l d tile k (length (stream_of scene d) - k)) (sym tracks'))
      | inr f ↦
          let tracks' : names_in d (performed syncs s e order) ≡ names_in d order = tracks ∙ ap (λ b. cond b (max (cursor d) (behind syncs s d)) (cursor d)) f in
          rw f (h d ∙ ap (λ k. jobs_from scene l d tile k (length (stream_of scene d) - k)) (sym tracks'))
    ]

-- where its log replays, a tile's jobs are left behind the names that it added
pub left_on : (scene : Scene) (l : Layout) (tile : ℕ) → GoesOn (sync_lists_of scene) (λ s es jobs order. IsLeft scene l tile order jobs)
left_on scene l tile = record {
  took = λ s es jobs order c place none h next. left_took scene l tile order jobs c place h next;
  done = λ s es jobs order e none h lawful members. left_performed scene l tile order jobs (sync_lists_of scene) s e h none lawful members;
}
