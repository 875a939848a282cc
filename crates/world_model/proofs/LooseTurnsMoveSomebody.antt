-- Where actors look at one lane after the other, and nothing moved while each had two turns, what each saw before the second one is as it was, so nobody can move.
use Rattle.std.proofs.Common.{◌≡◌, ℕ, zero, suc, ◌+◌, ◌-◌, ◌<◌, ◌≤◌, inl, inr, sym, ◌∙◌, subst, arith}
use Rattle.std.proofs.lemmas.Bool.{cases_lt}
use Rattle.rc_base.specs.Cluster.Tiles.{tile_count}
use Rattle.rc_base.specs.declared.scene.Scene.{Scene}
use Rattle.rc_base.specs.declared.window.Layout.{Layout}
use Rattle.tile_model.specs.Laws.{MembersAreClients}
use Rattle.world_model.specs.Threaded.{ThreadedWorld, ThreadedTurn, IsStill, threaded_number, AllThreadsHaveStopped}
use Rattle.world_model.specs.ThreadedFair.{IsSinceLast, AreSeenSinceLast, IsLooseSchedule, HaveTurnsBetween, LooseTurnsMoveSomebody}
use Rattle.world_model.specs.ThreadedLaws.{IsThreadedFlowing}
use Rattle.world_model.specs.World.{client_total}
use Rattle.world_model.proofs.LanesAsTheyStand.{AreAllLanesOf, as_seen}
use Rattle.world_model.proofs.StillThreads.{Fits, IsSameThreads, Known, same_threads, same_threads_on, still_keeps, knows, said_before, all_rest_of}
use Rattle.world_model.proofs.ThreadsMoveSomebody.{all_threads_stopped, threads_stopped_on}

module _ (scene : Scene) (l : Layout) (depth : ℕ) (world : ℕ → ThreadedWorld) (turn : ℕ → ThreadedTurn) (s : IsLooseSchedule scene l depth world turn) where
  -- so many turns move nothing: all is as it was
  kept : (from n : ℕ) → Fits scene l depth (world from) → ((k : ℕ) → from ≤ k → k < from + n → IsStill (turn k))
      → IsSameThreads scene l depth (world from) (world (from + n)) × Fits scene l depth (world (from + n))
  kept from zero fit still =
      let e : from ≡ from + 0 = omega arith in
      subst (λ i. IsSameThreads scene l depth (world from) (world i) × Fits scene l depth (world i)) e (same_threads scene l depth (world from), fit)
  kept from (suc n) fit still =
      let before = kept from n fit (λ k le lt. still k le (omega (arith, lt))) in
      let step = still_keeps scene l depth (world (from + n)) (world (suc (from + n))) (s (from + n)).seen (turn (from + n)) before.1
      (still (from + n) (omega arith) (omega arith)) (s (from + n)).goes in
      let e : suc (from + n) ≡ from + suc n = omega arith in
      subst (λ i. IsSameThreads scene l depth (world from) (world i) × Fits scene l depth (world i)) e
      (same_threads_on scene l depth (world from) (world (from + n)) (world (suc (from + n))) before.0 step.0, step.1)

  module _ (from between to : ℕ) (fit : Fits scene l depth (world from)) (still : (k : ℕ) → from ≤ k → k < to → IsStill (turn k))
      (once : HaveTurnsBetween scene l turn from between) (again : HaveTurnsBetween scene l turn between to) where
    abbrev last : ℕ
    last = client_total scene + 1 + tile_count l

    before : from ≤ between
    before = let x = once last (omega arith) in let a = x.1 in let b = x.2 in omega (arith, a, b)

    after : between ≤ to
    after = let x = again last (omega arith) in let a = x.1 in let b = x.2 in omega (arith, a, b)

    same_at : (i : ℕ) → from ≤ i → i ≤ to → IsSameThreads scene l depth (world from) (world i) × Fits scene l depth (world i)
    same_at i le lt =
        let e : from + (i - from) ≡ i = omega (arith, le) in
        subst (λ j. IsSameThreads scene l depth (world from) (world j) × Fits scene l depth (world j)) e
        (kept from (i - from) fit (λ k a b. still k a (omega (arith, b, e, lt))))

    module _ (actor : ℕ) (la : actor < client_total scene + 1 + tile_count l + 1) (i : ℕ) (le : between ≤ i) (lt : i < to) (is : threaded_number scene l (turn i) ≡ actor) where
      -- what was seen since the actor's last turn is no older than the first of all these turns
      recent : (j : ℕ) → IsSinceLast scene l turn i j → from ≤ j
      recent j since = elim (cases_lt j from) [
        | inr ge ↦ ge
        | inl less ↦ absurd (
            let x = once actor la in
            let a = x.1 in
            let b = x.2 in
            since.none x.0 (omega (arith, less, a)) (omega (arith, b, le)) (x.3 ∙ sym is))
      ]

      same_then : (j : ℕ) → IsSinceLast scene l turn i j → IsSameThreads scene l depth (world from) (world j)
      same_then j since = let b = since.before in (same_at j (recent j since) (omega (arith, b, lt))).0

      here : IsSameThreads scene l depth (world from) (world i)
      here = let b = before in (same_at i (omega (arith, b, le)) (omega (arith, lt))).0

      fits_here : Fits scene l depth (world i)
      fits_here = let b = before in (same_at i (omega (arith, b, le)) (omega (arith, lt))).1

      still_here : IsStill (turn i)
      still_here = let b = before in still i (omega (arith, b, le)) lt

      seen_since : AreSeenSinceLast scene l world turn i (s i).seen
      seen_since = (s i).since still_here

      as_they_stand : AreAllLanesOf scene l (world i) (s i).seen
      as_they_stand = record {
        cluster = record {
          parcels = λ client tile lc lt. let p = seen_since.parcels client tile lc lt in
              p.2 ∙ (same_then p.0 p.1).cluster.parcels client tile lc lt ∙ sym (here.cluster.parcels client tile lc lt);
          requests = λ client lc. let p = seen_since.requests client lc in p.2 ∙ (same_then p.0 p.1).cluster.requests client lc ∙ sym (here.cluster.requests client lc);
          grants = λ tile lt. let p = seen_since.grants tile lt in p.2 ∙ (same_then p.0 p.1).cluster.grants tile lt ∙ sym (here.cluster.grants tile lt);
        };
        parts = λ tile lt. let p = seen_since.parts tile lt in p.2 ∙ (same_then p.0 p.1).lanes tile lt ∙ sym (here.lanes tile lt);
      }

      known : Known scene l depth (world from) (turn i)
      known = said_before scene l depth (world from) (world i) (turn i) here
          (knows scene l depth (world i) (world (suc i)) (turn i) fits_here still_here (as_seen scene l depth (world i) (world (suc i)) (s i).seen as_they_stand (turn i) (s i).goes))

    pub nobody_can_move : MembersAreClients → (frames : ℕ) → 0 < depth → IsThreadedFlowing scene l frames (world from) → AllThreadsHaveStopped scene l (world to)
    nobody_can_move members frames pos f =
        let b = before in
        let a = after in
        threads_stopped_on scene l depth (world from) (world to) (same_at to (omega (arith, b, a)) (omega arith)).0
        (all_threads_stopped members scene l depth frames pos (world from) f
        (all_rest_of scene l depth (world from) (λ actor la. let x = again actor la in (turn x.0, known actor la x.0 x.1 x.2 x.3, x.3))))

pub loose_turns_move : MembersAreClients → LooseTurnsMoveSomebody
loose_turns_move members scene l depth frames world turn from between to pos f s once again still =
    nobody_can_move scene l depth world turn s from between to record { lanes = f.lanes; layout = f.layout } still once again members frames pos f
