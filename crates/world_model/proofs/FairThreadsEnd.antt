-- In a schedule of the cluster that runs on threads in which each actor and the caller have turns again and again somebody moves until all have stopped, and each
-- turn that moves something leaves less to do, whatever its actor saw of its lanes.
use Rattle.std.proofs.Common.{◌≡◌, ℕ, zero, suc, ◌+◌, ◌-◌, ◌<◌, ◌≤◌, List, [], ◌∷◌, inl, inr, refl, ap, subst, arith}
use Rattle.std.proofs.lemmas.Bool.{cases_lt}
use Rattle.std.specs.List.{AllByRecursion}
use Rattle.rc_base.specs.Cluster.Tiles.{tile_count}
use Rattle.rc_base.specs.Orders.Sync.{IsWellFormed, sync_lists_of}
use Rattle.rc_base.specs.declared.scene.Scene.{Scene}
use Rattle.rc_base.specs.declared.window.Layout.{Layout}
use Rattle.order_model.specs.Scenes.{ScenesWithinLimitsAreDrawable, ScenesWithinLimitsAreRunnable}
use Rattle.world_model.specs.Threaded.{ThreadedWorld, ThreadedTurn, lanes_now, frames_by, AreLooseTurns, IsStill, threaded_number, AllThreadsHaveStopped}
use Rattle.world_model.specs.ThreadedFair.{threaded_work, ThreadedTurnsLeaveLess, ThreadedTurnsLeaveNoMore, NewThreadedWorldsHaveLittleToDo, IsFairToThreads, IsSinceLast, IsLooseSchedule, ThreadedSchedulesAreLoose, LooseTurnsMoveSomebody, FairLooseSchedulesEnd, FairLooseRunsEnd, AreThreadsMoving, NewThreadedRunsMoveSeldom}
use Rattle.world_model.specs.ThreadedLaws.{LayoutsHavePixels, IsThreadedFlowing, HavePixels, NewThreadedWorldsFlow, ThreadedTurnsKeepFlowing}
use Rattle.world_model.specs.World.{client_total}
use Rattle.world_model.proofs.FairSchedulesEnd.{all_or_not, turns_from, moment}
use Rattle.world_model.proofs.ThreadsLeaveLess.{stands}

-- ---- turns one after the other

module _ (scene : Scene) (l : Layout) (depth : ℕ) (keep : ThreadedTurnsKeepFlowing) (less : ThreadedTurnsLeaveLess) (more : ThreadedTurnsLeaveNoMore) (some : 0 < tile_count l)
    (pixels : HavePixels l) (well : IsWellFormed (sync_lists_of scene)) where
  all_no_more : (turns : List ThreadedTurn) (frames : ℕ) (w v : ThreadedWorld) → IsThreadedFlowing scene l frames w → AreLooseTurns scene l depth w turns v
      → threaded_work scene l v ≤ threaded_work scene l w
  all_no_more [] frames w v f goes = let e = ap (threaded_work scene l) goes in omega (arith, e)
  all_no_more (turn ∷ turns) frames w v f goes =
      let a = more scene l depth frames w goes.0 goes.1.0 turn some well f goes.1.1 in
      let b = all_no_more turns (frames + frames_by turn) goes.0 v (keep scene l depth frames w goes.0 goes.1.0 turn pixels f goes.1.1) goes.2 in
      omega (arith, a, b)

  count : (moving : ℕ) (turns : List ThreadedTurn) (frames : ℕ) (w v : ThreadedWorld) → IsThreadedFlowing scene l frames w → AreLooseTurns scene l depth w turns v
      → AreThreadsMoving moving turns → moving + threaded_work scene l v ≤ threaded_work scene l w
  count zero turns frames w v f goes m = let a = all_no_more turns frames w v f goes in omega (arith, a)
  count (suc n) [] frames w v f goes m = absurd m
  count (suc n) (turn ∷ turns) frames w v f goes (inl m) =
      let a = more scene l depth frames w goes.0 goes.1.0 turn some well f goes.1.1 in
      let b = count (suc n) turns (frames + frames_by turn) goes.0 v (keep scene l depth frames w goes.0 goes.1.0 turn pixels f goes.1.1) goes.2 m.1 in
      omega (arith, a, b)
  count (suc n) (turn ∷ turns) frames w v f goes (inr m) =
      let a = less scene l depth frames w goes.0 goes.1.0 turn some well f goes.1.1 m.0 in
      let b = count n turns (frames + frames_by turn) goes.0 v (keep scene l depth frames w goes.0 goes.1.0 turn pixels f goes.1.1) goes.2 m.1 in
      omega (arith, a, b)

  -- ---- without end

  module _ (world : ℕ → ThreadedWorld) (turn : ℕ → ThreadedTurn) (s : IsLooseSchedule scene l depth world turn) where
    abbrev Flows : ℕ → Type 0
    Flows k = (frames : ℕ) × IsThreadedFlowing scene l frames (world k)

    flows_on : (k : ℕ) → Flows k → Flows (suc k)
    flows_on k f = (f.0 + frames_by (turn k), keep scene l depth f.0 (world k) (world (suc k)) (s k).seen (turn k) pixels f.1 (s k).goes)

    -- n turns lead to a flowing world with no more to do, and with less where one of them moves something
    no_more : (n k : ℕ) → Flows k → Flows (k + n) × (threaded_work scene l (world (k + n)) ≤ threaded_work scene l (world k))
    no_more zero k f =
        let e : k ≡ k + 0 = omega arith in
        subst (λ i. Flows i × (threaded_work scene l (world i) ≤ threaded_work scene l (world k))) e (f, omega arith)
    no_more (suc n) k f =
        let a = more scene l depth f.0 (world k) (world (suc k)) (s k).seen (turn k) some well f.1 (s k).goes in
        let rest = no_more n (suc k) (flows_on k f) in
        let b = rest.1 in
        let e : suc k + n ≡ k + suc n = omega arith in
        subst (λ i. Flows i × (threaded_work scene l (world i) ≤ threaded_work scene l (world k))) e (rest.0, omega (arith, a, b))

    leaves_less : (n k : ℕ) → Flows k → (AllByRecursion IsStill (turns_from turn k n) → ⊥) → threaded_work scene l (world (k + n)) < threaded_work scene l (world k)
    leaves_less zero k f moving = absurd (moving tt)
    leaves_less (suc n) k f moving =
        let e : suc k + n ≡ k + suc n = omega arith in
        subst (λ i. threaded_work scene l (world i) < threaded_work scene l (world k)) e (elim (stands (turn k)) [
          | inr moves ↦
              let a = less scene l depth f.0 (world k) (world (suc k)) (s k).seen (turn k) some well f.1 (s k).goes moves in
              let b = (no_more n (suc k) (flows_on k f)).1 in
              omega (arith, a, b)
          | inl still ↦
              let a = more scene l depth f.0 (world k) (world (suc k)) (s k).seen (turn k) some well f.1 (s k).goes in
              let b = leaves_less n (suc k) (flows_on k f) (λ all. moving (still, all)) in
              omega (arith, a, b)
        ])

    still_of : (n k i : ℕ) → k ≤ i → i < k + n → AllByRecursion IsStill (turns_from turn k n) → IsStill (turn i)
    still_of zero k i le lt h = absurd (omega (arith, le, lt))
    still_of (suc n) k i le lt h = elim (cases_lt k i) [
      | inl after ↦ still_of n (suc k) i (omega (arith, after)) (omega (arith, lt)) h.1
      | inr ge ↦ (let same : k ≡ i = omega (arith, le, ge) in subst (λ j. IsStill (turn j)) same h.0)
    ]

    module _ (moves : LooseTurnsMoveSomebody) (pos : 0 < depth) (fair : IsFairToThreads scene l turn) where
      ends : (most k : ℕ) → Flows k → threaded_work scene l (world k) < most → (j : ℕ) × AllThreadsHaveStopped scene l (world j)
      ends zero k f lt = absurd (omega (arith, lt))
      ends (suc most) k f lt =
          let once = moment (threaded_number scene l) (client_total scene + 1 + tile_count l + 1) turn fair k (client_total scene + 1 + tile_count l + 1) (omega arith) in
          let again = moment (threaded_number scene l) (client_total scene + 1 + tile_count l + 1) turn fair once.0 (client_total scene + 1 + tile_count l + 1) (omega arith) in
          let a = once.1 in
          let b = again.1 in
          let n = again.0 - k in
          let to : k + n ≡ again.0 = omega (arith, a, b) in
          elim (all_or_not IsStill stands (turns_from turn k n)) [
            | inl still ↦ (
              again.0,
              moves scene l depth f.0 world turn k once.0 again.0 pos f.1 s once.2 again.2 (λ i le before. still_of n k i le (omega (arith, before, to)) still),
            )
            | inr moving ↦ (let falls = leaves_less n k f moving in ends most (k + n) (no_more n k f).0 (omega (arith, lt, falls)))
          ]

pub fair_loose_end : ThreadedTurnsKeepFlowing → ThreadedTurnsLeaveLess → ThreadedTurnsLeaveNoMore → LooseTurnsMoveSomebody → FairLooseSchedulesEnd
fair_loose_end keep less more moves scene l depth frames world turn pos some pixels well f s fair =
    ends scene l depth keep less more some pixels well world turn s moves pos fair (threaded_work scene l (world 0) + 1) 0 (frames, f) (omega arith)

-- ---- actors that see their lanes as they stand

pub threads_are_loose : ThreadedSchedulesAreLoose
threads_are_loose scene l depth world turn s k = record {
  seen = lanes_now (world k);
  goes = s k;
  since = λ still. record {
    parcels = λ client tile lc lt. (k, now, refl);
    requests = λ client lc. (k, now, refl);
    grants = λ tile lt. (k, now, refl);
    parts = λ tile lt. (k, now, refl);
  };
}
  where
    now : IsSinceLast scene l turn k k
    now = record { before = omega arith; none = λ i le lt e. absurd (omega (arith, le, lt)) }

-- ---- of scenes within the limits

module _ (drawable : ScenesWithinLimitsAreDrawable) (runnable : ScenesWithinLimitsAreRunnable) (pixels : LayoutsHavePixels) (new : NewThreadedWorldsFlow) where
  pub fair_loose_runs_end : FairLooseSchedulesEnd → FairLooseRunsEnd
  fair_loose_runs_end fair_end scene l depth world turn within fits first s fair =
      let run = runnable scene l depth within fits in
      let deep = run.some_depth in
      fair_end scene l depth 0 world turn (omega (arith, deep)) run.some_tiles (pixels scene l depth fits) (drawable scene within).formed (new scene l (world 0) first) s fair

  pub new_threads_move_seldom : NewThreadedWorldsHaveLittleToDo → ThreadedTurnsKeepFlowing → ThreadedTurnsLeaveLess → ThreadedTurnsLeaveNoMore → NewThreadedRunsMoveSeldom
  new_threads_move_seldom little keep less more scene l depth moving turns w v within fits first goes m =
      let run = runnable scene l depth within fits in
      let a = little scene l w first run.few run.few_tiles (λ client. let k = run.short client in omega (arith, k)) in
      let b = count scene l depth keep less more run.some_tiles (pixels scene l depth fits) (drawable scene within).formed moving turns 0 w v (new scene l w first) goes m in
      omega (arith, a, b)
