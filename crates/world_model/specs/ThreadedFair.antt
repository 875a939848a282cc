-- How much is left to do in the cluster that runs on threads, and schedules of it without end, in which each actor and the caller have turns again and again.
use Rattle.std.specs.Prelude.{◌≡◌, ℕ, zero, suc, ◌+◌, ◌<◌, ◌≤◌, ◌^◌, cond, List, [], ◌∷◌, length, ◌⊎◌, option_to_list}
use Rattle.std.specs.List.{AllByRecursion}
use Rattle.rc_base.specs.Cluster.Tiles.{tile_count}
use Rattle.rc_base.specs.Contexts.Issue.{stream_of}
use Rattle.rc_base.specs.Formats.Within.{IsWithin, IsLayoutFor}
use Rattle.rc_base.specs.Orders.Sync.{IsWellFormed, sync_lists_of}
use Rattle.rc_base.specs.declared.scene.Scene.{Scene}
use Rattle.rc_base.specs.declared.window.Layout.{Layout}
use Rattle.assembler.specs.Assembled.{places_of, short_of}
use Rattle.assembler.specs.Places.{in_place}
use Rattle.world_model.specs.Threaded.{ThreadedWorld, ThreadedTurn, SeenLanes, lane_of, IsNewThreadedWorld}
use Rattle.world_model.specs.Threaded.{IsThreadedTurnSeeing, IsThreadedTurn, AreLooseTurns, IsStill, threaded_number, AllThreadsHaveStopped}
use Rattle.world_model.specs.ThreadedLaws.{IsThreadedFlowing, HavePixels}
use Rattle.world_model.specs.Work.{total, one_unless, work_in}
use Rattle.world_model.specs.World.{client_total}

-- ---- what is left to do

-- the part in the tile's place is to be put into a frame, unless the caller is short
abbrev pub placed : ThreadedWorld → ℕ → ℕ
placed w tile = cond (short_of w.caller) 0 (length (option_to_list (in_place (places_of w.caller) tile)))

-- each part that the tile hands over is to be sent, taken and put into a frame, and each in its lane to be taken and put into one
abbrev pub part_work : ThreadedWorld → ℕ → ℕ
part_work w tile =
    let handed = length (option_to_list (w.handing tile)) in
    let sent = length (lane_of w tile) in
    (handed + handed + handed) + (sent + sent) + placed w tile

-- with each thing that the cluster does at most one part comes to be handed over
abbrev pub threaded_work : Scene → Layout → ThreadedWorld → ℕ
threaded_work scene l w =
    let cluster = work_in scene l w.cluster in
    (cluster + cluster + cluster + cluster) + one_unless (short_of w.caller) + total (part_work w) (tile_count l)

-- ---- turns

-- each turn that moves something leaves less to do, whatever its actor saw of its lanes
abbrev pub ThreadedTurnsLeaveLess : Type 0
ThreadedTurnsLeaveLess =
    (scene : Scene) (l : Layout) (depth frames : ℕ) (w later : ThreadedWorld) (seen : SeenLanes) (turn : ThreadedTurn) → 0 < tile_count l
    → IsWellFormed (sync_lists_of scene) → IsThreadedFlowing scene l frames w → IsThreadedTurnSeeing scene l depth w seen turn later → (IsStill turn → ⊥)
    → threaded_work scene l later < threaded_work scene l w

-- and no turn leaves more
abbrev pub ThreadedTurnsLeaveNoMore : Type 0
ThreadedTurnsLeaveNoMore =
    (scene : Scene) (l : Layout) (depth frames : ℕ) (w later : ThreadedWorld) (seen : SeenLanes) (turn : ThreadedTurn) → 0 < tile_count l
    → IsWellFormed (sync_lists_of scene) → IsThreadedFlowing scene l frames w → IsThreadedTurnSeeing scene l depth w seen turn later
    → threaded_work scene l later ≤ threaded_work scene l w

-- a new world of few clients with short streams, on few tiles, has little to do
abbrev pub NewThreadedWorldsHaveLittleToDo : Type 0
NewThreadedWorldsHaveLittleToDo =
    (scene : Scene) (l : Layout) (w : ThreadedWorld) → IsNewThreadedWorld scene l w → client_total scene ≤ 8 → tile_count l ≤ 32
    → ((client : ℕ) → length (stream_of scene client) ≤ 2 ^ 20) → threaded_work scene l w < 2 ^ 42

-- ---- without end

-- each actor has a turn from every moment on, and so has the caller
abbrev pub IsFairToThreads : Scene → Layout → (ℕ → ThreadedTurn) → Type 0
IsFairToThreads scene l turn =
    (actor : ℕ) → actor < client_total scene + 1 + tile_count l + 1 → (k : ℕ) → (later : ℕ) × (k ≤ later) × (threaded_number scene l (turn later) ≡ actor)

-- A schedule: a world after the other, and the turn that leads from each to the next. Each actor sees its lanes as they stand.
abbrev pub IsThreadedSchedule : Scene → Layout → ℕ → (ℕ → ThreadedWorld) → (ℕ → ThreadedTurn) → Type 0
IsThreadedSchedule scene l depth world turn = (k : ℕ) → IsThreadedTurn scene l depth (world k) (turn k) (world (suc k))

-- ---- one lane after the other

-- from the j-th world on the actor of turn k has no turn before that one
pub record IsSinceLast (scene : Scene) (l : Layout) (turn : ℕ → ThreadedTurn) (k j : ℕ) : Type 0 where
  pub before : j ≤ k
  pub none : (i : ℕ) → j ≤ i → i < k → threaded_number scene l (turn i) ≡ threaded_number scene l (turn k) → ⊥

-- Each lane was seen as it stood at some moment since then: each at a moment of its own.
pub record AreSeenSinceLast (scene : Scene) (l : Layout) (world : ℕ → ThreadedWorld) (turn : ℕ → ThreadedTurn) (k : ℕ) (seen : SeenLanes) : Type 0 where
  pub parcels : (client tile : ℕ) → client < client_total scene → tile < tile_count l
      → (j : ℕ) × IsSinceLast scene l turn k j × (seen.cluster.parcels client tile ≡ (world j).cluster.parcels client tile)
  pub requests : (client : ℕ) → client < client_total scene
      → (j : ℕ) × IsSinceLast scene l turn k j × (seen.cluster.requests client ≡ (world j).cluster.requests client)
  pub grants : (tile : ℕ) → tile < tile_count l → (j : ℕ) × IsSinceLast scene l turn k j × (seen.cluster.grants tile ≡ (world j).cluster.grants tile)
  pub parts : (tile : ℕ) → tile < tile_count l → (j : ℕ) × IsSinceLast scene l turn k j × (seen.parts tile ≡ lane_of (world j) tile)

-- A turn of an actor that looks at one lane after the other. One that moves something does so whatever its actor saw; one that moves nothing saw each lane since its
-- actor's last turn.
pub record IsLooseStep (scene : Scene) (l : Layout) (depth : ℕ) (world : ℕ → ThreadedWorld) (turn : ℕ → ThreadedTurn) (k : ℕ) : Type 0 where
  pub seen : SeenLanes
  pub goes : IsThreadedTurnSeeing scene l depth (world k) seen (turn k) (world (suc k))
  pub since : IsStill (turn k) → AreSeenSinceLast scene l world turn k seen

-- a schedule of such turns
abbrev pub IsLooseSchedule : Scene → Layout → ℕ → (ℕ → ThreadedWorld) → (ℕ → ThreadedTurn) → Type 0
IsLooseSchedule scene l depth world turn = (k : ℕ) → IsLooseStep scene l depth world turn k

-- where each actor sees its lanes as they stand, the schedule is one of these
abbrev pub ThreadedSchedulesAreLoose : Type 0
ThreadedSchedulesAreLoose =
    (scene : Scene) (l : Layout) (depth : ℕ) (world : ℕ → ThreadedWorld) (turn : ℕ → ThreadedTurn) → IsThreadedSchedule scene l depth world turn
    → IsLooseSchedule scene l depth world turn

-- from the one moment on, and before the other, each actor has a turn, and so has the caller
abbrev pub HaveTurnsBetween : Scene → Layout → (ℕ → ThreadedTurn) → ℕ → ℕ → Type 0
HaveTurnsBetween scene l turn from to =
    (actor : ℕ) → actor < client_total scene + 1 + tile_count l + 1 → (i : ℕ) × (from ≤ i) × (i < to) × (threaded_number scene l (turn i) ≡ actor)

-- Among turns of which each actor has one, and then another one, somebody moves, until all have stopped and no part waits.
abbrev pub LooseTurnsMoveSomebody : Type 0
LooseTurnsMoveSomebody =
    (scene : Scene) (l : Layout) (depth frames : ℕ) (world : ℕ → ThreadedWorld) (turn : ℕ → ThreadedTurn) (from between to : ℕ) → 0 < depth
    → IsThreadedFlowing scene l frames (world from) → IsLooseSchedule scene l depth world turn → HaveTurnsBetween scene l turn from between
    → HaveTurnsBetween scene l turn between to → ((k : ℕ) → from ≤ k → k < to → IsStill (turn k)) → AllThreadsHaveStopped scene l (world to)

-- Every fair schedule comes to a world in which all have stopped and no part waits: for lanes of every depth above 0, whoever is short or becomes so.
abbrev pub FairLooseSchedulesEnd : Type 0
FairLooseSchedulesEnd =
    (scene : Scene) (l : Layout) (depth frames : ℕ) (world : ℕ → ThreadedWorld) (turn : ℕ → ThreadedTurn) → 0 < depth → 0 < tile_count l → HavePixels l
    → IsWellFormed (sync_lists_of scene) → IsThreadedFlowing scene l frames (world 0) → IsLooseSchedule scene l depth world turn → IsFairToThreads scene l turn
    → (k : ℕ) × AllThreadsHaveStopped scene l (world k)

-- So does every fair schedule from a new world, of each scene within the limits on each layout for it.
abbrev pub FairLooseRunsEnd : Type 0
FairLooseRunsEnd =
    (scene : Scene) (l : Layout) (depth : ℕ) (world : ℕ → ThreadedWorld) (turn : ℕ → ThreadedTurn) → IsWithin scene → IsLayoutFor scene l depth
    → IsNewThreadedWorld scene l (world 0) → IsLooseSchedule scene l depth world turn → IsFairToThreads scene l turn
    → (k : ℕ) × AllThreadsHaveStopped scene l (world k)

-- so many of the turns move something
abbrev pub AreThreadsMoving : ℕ → List ThreadedTurn → Type 0
AreThreadsMoving zero turns = AllByRecursion IsStill turns
AreThreadsMoving (suc n) [] = ⊥
AreThreadsMoving (suc n) (turn ∷ turns) = (IsStill turn × AreThreadsMoving (suc n) turns) ⊎ ((IsStill turn → ⊥) × AreThreadsMoving n turns)

-- from such a world fewer than 2^42 turns move something, however far one looks
abbrev pub NewThreadedRunsMoveSeldom : Type 0
NewThreadedRunsMoveSeldom =
    (scene : Scene) (l : Layout) (depth moving : ℕ) (turns : List ThreadedTurn) (w later : ThreadedWorld) → IsWithin scene → IsLayoutFor scene l depth
    → IsNewThreadedWorld scene l w → AreLooseTurns scene l depth w turns later → AreThreadsMoving moving turns → moving < 2 ^ 42
