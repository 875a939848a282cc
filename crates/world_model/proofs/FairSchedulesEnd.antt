-- In a schedule in which each actor has a turn again and again somebody moves until all have stopped, and each turn that moves leaves less to do.
use Rattle.std.proofs.Common.{◌≡◌, ◌⊎◌, ℕ, zero, suc, ◌+◌, ◌-◌, ◌<◌, ◌≤◌, List, [], ◌∷◌, map, inl, inr, ap, ◌∙◌, subst, arith}
use Rattle.std.proofs.lemmas.Bool.{cases_lt}
use Rattle.std.specs.List.{AllByRecursion}
use Rattle.rc_base.specs.Lists.{IsIn}
use Rattle.rc_base.specs.Orders.Sync.{IsWellFormed, sync_lists_of}
use Rattle.rc_base.specs.declared.scene.Scene.{Scene}
use Rattle.rc_base.specs.declared.window.Layout.{Layout}
use Rattle.world_model.specs.Fair.{actor_total, AreMoving, FairTurnsMoveSomebody, FewTurnsMove, IsSchedule, IsFair, FairSchedulesEnd, FairRunsEnd, NewRunsMoveSeldom}
use Rattle.world_model.specs.Flowing.{IsFlowing}
use Rattle.world_model.specs.Laws.{NewWorldsFlow, TurnsKeepWorldsFlowing, RoundsKeepWorldsFlowing}
use Rattle.world_model.specs.Turns.{Turn, AreTurns, IsResting, number_of, AllHaveStopped}
use Rattle.world_model.specs.Work.{work_in, TurnsLeaveLess, TurnsLeaveNoMore, RoundsLeaveLess, NewWorldsHaveLittleToDo}
use Rattle.world_model.specs.World.{World, all_lanes}
use Rattle.world_model.proofs.WorkIsBounded.{rests}

-- whether all of some turns, of whatever kind, are of a sort, where that can be told of each
pub all_or_not : {T : Type 0} (Sort : T → Type 0) → ((turn : T) → Sort turn ⊎ (Sort turn → ⊥)) → (turns : List T) → AllByRecursion Sort turns ⊎ (AllByRecursion Sort turns → ⊥)
all_or_not Sort told [] = inl tt
all_or_not Sort told (turn ∷ turns) = elim (told turn) [
  | inl here ↦ elim (all_or_not Sort told turns) [
    | inl all ↦ inl (here, all)
    | inr other ↦ inr (λ h. other h.1)
  ]
  | inr other ↦ inr (λ h. other h.0)
]

-- ---- turns without end, of whatever kind, by the numbers of their actors

module _ {T : Type 0} (turn : ℕ → T) where
  -- n turns from the k-th on
  abbrev pub turns_from : ℕ → ℕ → List T
  turns_from k zero = []
  turns_from k (suc n) = turn k ∷ turns_from (suc k) n

module _ {T : Type 0} (number : T → ℕ) (turn : ℕ → T) where
  pub has_turn : (k n i : ℕ) → k ≤ i → i < k + n → IsIn (number (turn i)) (map number (turns_from turn k n))
  has_turn k zero i le lt = absurd (omega (arith, le, lt))
  has_turn k (suc n) i le lt = elim (cases_lt k i) [
    | inl less ↦ inr (has_turn (suc k) n i (omega (arith, less)) (omega (arith, lt)))
    | inr ge ↦ inl (let same : k ≡ i = omega (arith, le, ge) in ap (λ j. number (turn j)) same)
  ]

-- from a turn on, a moment before which each of the first n actors has had one
pub moment : {T : Type 0} (number : T → ℕ) (actors : ℕ) (turn : ℕ → T)
    → ((actor : ℕ) → actor < actors → (k : ℕ) → (later : ℕ) × (k ≤ later) × (number (turn later) ≡ actor)) → (k n : ℕ) → n ≤ actors
    → (end : ℕ) × (k ≤ end) × ((actor : ℕ) → actor < n → (i : ℕ) × (k ≤ i) × (i < end) × (number (turn i) ≡ actor))
moment number actors turn fair k zero le = (k, omega arith, λ actor lt. absurd (omega (arith, lt)))
moment number actors turn fair k (suc n) le =
    let r = moment number actors turn fair k n (omega (arith, le)) in
    let f = fair n (omega (arith, le)) k in
    let from = r.1 in
    let behind = f.1 in (
      r.0 + f.0 + 1,
      omega (arith, from),
      λ actor lt. elim (cases_lt actor n) [
        | inl less ↦ let x = r.2 actor less in (let there = x.2 in (x.0, x.1, omega (arith, there), x.3))
        | inr ge ↦ (f.0, behind, omega arith, f.2 ∙ (let same : n ≡ actor = omega (arith, ge, lt) in same))
      ],
    )

module _ (scene : Scene) (l : Layout) (depth : ℕ) (world : ℕ → World) (turn : ℕ → Turn) where
  leads : IsSchedule scene l depth world turn → (k n : ℕ) → AreTurns scene l depth (world k) (turns_from turn k n) (world (k + n))
  leads s k zero = ap world (let e : k + 0 ≡ k = omega arith in e)
  leads s k (suc n) =
      let e : suc k + n ≡ k + suc n = omega arith in
      (world (suc k), s k, subst (λ i. AreTurns scene l depth (world (suc k)) (turns_from turn (suc k) n) (world i)) e (leads s (suc k) n))

  module _ (fair_turns : FairTurnsMoveSomebody) (keep : RoundsKeepWorldsFlowing) (less : RoundsLeaveLess) (pos : 0 < depth) (well : IsWellFormed (sync_lists_of scene))
      (s : IsSchedule scene l depth world turn) (fair : IsFair scene l turn) where
    ends : (most k : ℕ) → IsFlowing scene l (world k) → work_in scene l (world k) < most → (j : ℕ) × AllHaveStopped scene l (world j)
    ends zero k f lt = absurd (omega (arith, lt))
    ends (suc most) k f lt =
        let m = moment (number_of scene) (actor_total scene l) turn fair k (actor_total scene l) (omega arith) in
        let from = m.1 in
        let n = m.0 - k in
        let to : k + n ≡ m.0 = omega (arith, from) in
        let goes = leads s k n in
        let turns = turns_from turn k n in
        elim (all_or_not IsResting rests turns) [
          | inl rest ↦ (
            k + n,
            fair_turns scene l depth turns (world k) (world (k + n)) pos f
                (λ actor la. let x = m.2 actor la in (let before = x.2 in subst (λ a. IsIn a (map (number_of scene) turns)) x.3 (has_turn (number_of scene) turn k n x.0 x.1 (omega (arith, to, before))))) goes rest,
          )
          | inr moving ↦ (let falls = less scene l depth (world k) (world (k + n)) turns well f goes moving in
              ends most (k + n) (keep scene l depth (world k) (world (k + n)) turns f goes) (omega (arith, lt, falls)))
        ]

pub fair_schedules_end : FairTurnsMoveSomebody → RoundsKeepWorldsFlowing → RoundsLeaveLess → FairSchedulesEnd
fair_schedules_end fair_turns keep less scene l depth world turn pos well f s fair =
    ends scene l depth world turn fair_turns keep less pos well s fair (work_in scene l (world 0) + 1) 0 f (omega arith)

pub fair_runs_end : NewWorldsFlow → FairSchedulesEnd → FairRunsEnd
fair_runs_end new fair_end scene l depth world turn pos well first s fair = fair_end scene l depth world turn pos well (new scene l (world 0) first) s fair

-- ---- how many turns move

module _ (keep : TurnsKeepWorldsFlowing) (less : TurnsLeaveLess) (more : TurnsLeaveNoMore) (scene : Scene) (l : Layout) (depth : ℕ) (well : IsWellFormed (sync_lists_of scene)) where
  count : (moving : ℕ) (turns : List Turn) (w v : World) → IsFlowing scene l w → AreTurns scene l depth w turns v → AreMoving moving turns → moving + work_in scene l v ≤ work_in scene l w
  count zero [] w v f goes m = let e = ap (work_in scene l) goes in omega (arith, e)
  count zero (t ∷ turns) w v f goes m =
      let a = more scene l depth w goes.0 (all_lanes w) t well f goes.1 in
      let b = count zero turns goes.0 v (keep scene l depth w goes.0 (all_lanes w) t f goes.1) goes.2 m.1 in
      omega (arith, a, b)
  count (suc n) [] w v f goes m = absurd m
  count (suc n) (t ∷ turns) w v f goes (inl m) =
      let a = more scene l depth w goes.0 (all_lanes w) t well f goes.1 in
      let b = count (suc n) turns goes.0 v (keep scene l depth w goes.0 (all_lanes w) t f goes.1) goes.2 m.1 in
      omega (arith, a, b)
  count (suc n) (t ∷ turns) w v f goes (inr m) =
      let a = less scene l depth w goes.0 (all_lanes w) t well f goes.1 m.0 in
      let b = count n turns goes.0 v (keep scene l depth w goes.0 (all_lanes w) t f goes.1) goes.2 m.1 in
      omega (arith, a, b)

pub few_turns_move : TurnsKeepWorldsFlowing → TurnsLeaveLess → TurnsLeaveNoMore → FewTurnsMove
few_turns_move keep less more scene l depth moving turns w v well f goes m = count keep less more scene l depth well moving turns w v f goes m

pub new_runs_move_seldom : NewWorldsFlow → NewWorldsHaveLittleToDo → FewTurnsMove → NewRunsMoveSeldom
new_runs_move_seldom new little few scene l depth moving turns w v well first clients tiles short goes m =
    let a = little scene l w first clients tiles short in
    let b = few scene l depth moving turns w v well (new scene l w first) goes m in
    omega (arith, a, b)
