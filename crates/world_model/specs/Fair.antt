-- Schedules without end: any turns of the actors, of which each has one again and again.
use Rattle.std.specs.Prelude.{◌≡◌, ℕ, zero, suc, ◌+◌, ◌<◌, ◌≤◌, ◌^◌, List, [], ◌∷◌, length, map, ◌⊎◌}
use Rattle.std.specs.List.{AllByRecursion}
use Rattle.rc_base.specs.Cluster.Tiles.{tile_count}
use Rattle.rc_base.specs.Contexts.Issue.{stream_of}
use Rattle.rc_base.specs.Lists.{IsIn}
use Rattle.rc_base.specs.Orders.Sync.{IsWellFormed, sync_lists_of}
use Rattle.rc_base.specs.declared.scene.Scene.{Scene}
use Rattle.rc_base.specs.declared.window.Layout.{Layout}
use Rattle.world_model.specs.Flowing.{IsFlowing}
use Rattle.world_model.specs.Turns.{Turn, IsTurn, AreTurns, IsResting, number_of, AllHaveStopped}
use Rattle.world_model.specs.Work.{work_in}
use Rattle.world_model.specs.World.{World, client_total, IsNewWorld}

-- how many actors there are
abbrev pub actor_total : Scene → Layout → ℕ
actor_total scene l = client_total scene + 1 + tile_count l

-- ---- some turns

-- each actor has one of the turns, or more
abbrev pub HaveTurns : Scene → Layout → List Turn → Type 0
HaveTurns scene l turns = (actor : ℕ) → actor < actor_total scene l → IsIn actor (map (number_of scene) turns)

-- so many of the turns aren't at rest
abbrev pub AreMoving : ℕ → List Turn → Type 0
AreMoving zero turns = AllByRecursion IsResting turns
AreMoving (suc n) [] = ⊥
AreMoving (suc n) (turn ∷ turns) = (IsResting turn × AreMoving (suc n) turns) ⊎ ((IsResting turn → ⊥) × AreMoving n turns)

-- Turns in any sequence, among which each actor has one, move somebody until all have stopped, for every depth above 0, whoever is short.
abbrev pub FairTurnsMoveSomebody : Type 0
FairTurnsMoveSomebody =
    (scene : Scene) (l : Layout) (depth : ℕ) (turns : List Turn) (w later : World) → 0 < depth → IsFlowing scene l w
    → HaveTurns scene l turns → AreTurns scene l depth w turns later → AllByRecursion IsResting turns → AllHaveStopped scene l later

-- no more turns move than there were things to do
abbrev pub FewTurnsMove : Type 0
FewTurnsMove =
    (scene : Scene) (l : Layout) (depth moving : ℕ) (turns : List Turn) (w later : World) → IsWellFormed (sync_lists_of scene) → IsFlowing scene l w
    → AreTurns scene l depth w turns later → AreMoving moving turns → moving + work_in scene l later ≤ work_in scene l w

-- ---- without end

-- A schedule: a world after the other, and the turn that leads from each to the next.
abbrev pub IsSchedule : Scene → Layout → ℕ → (ℕ → World) → (ℕ → Turn) → Type 0
IsSchedule scene l depth world turn = (k : ℕ) → IsTurn scene l depth (world k) (turn k) (world (suc k))

-- each actor has a turn from every moment on, and so again and again
abbrev pub IsFair : Scene → Layout → (ℕ → Turn) → Type 0
IsFair scene l turn = (actor : ℕ) → actor < actor_total scene l → (k : ℕ) → (later : ℕ) × (k ≤ later) × (number_of scene (turn later) ≡ actor)

-- every fair schedule comes to a world in which all have stopped, for every depth above 0, whoever is short or becomes so
abbrev pub FairSchedulesEnd : Type 0
FairSchedulesEnd =
    (scene : Scene) (l : Layout) (depth : ℕ) (world : ℕ → World) (turn : ℕ → Turn) → 0 < depth → IsWellFormed (sync_lists_of scene)
    → IsFlowing scene l (world 0) → IsSchedule scene l depth world turn → IsFair scene l turn → (k : ℕ) × AllHaveStopped scene l (world k)

-- From a new world of few clients with short streams, on few tiles, every fair schedule ends, and fewer than 2^40 of its turns move, however far one looks.
abbrev pub FairRunsEnd : Type 0
FairRunsEnd =
    (scene : Scene) (l : Layout) (depth : ℕ) (world : ℕ → World) (turn : ℕ → Turn) → 0 < depth → IsWellFormed (sync_lists_of scene)
    → IsNewWorld scene l (world 0) → IsSchedule scene l depth world turn → IsFair scene l turn → (k : ℕ) × AllHaveStopped scene l (world k)

abbrev pub NewRunsMoveSeldom : Type 0
NewRunsMoveSeldom =
    (scene : Scene) (l : Layout) (depth moving : ℕ) (turns : List Turn) (w later : World) → IsWellFormed (sync_lists_of scene) → IsNewWorld scene l w
    → client_total scene ≤ 8 → tile_count l ≤ 32 → ((client : ℕ) → length (stream_of scene client) ≤ 2 ^ 20)
    → AreTurns scene l depth w turns later → AreMoving moving turns → moving < 2 ^ 40
