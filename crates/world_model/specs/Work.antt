-- How much is left to do in a world, whoever is short in it: each turn that isn't at rest does one of these things.
use Rattle.std.specs.Prelude.{ℕ, zero, suc, ◌+◌, ◌-◌, ◌<◌, ◌≤◌, ◌^◌, Bool, cond, List, length}
use Rattle.std.specs.List.{AllByRecursion}
use Rattle.rc_base.specs.Cluster.Sending.{requests_in}
use Rattle.rc_base.specs.Cluster.Tiles.{tile_count}
use Rattle.rc_base.specs.Contexts.Issue.{stream_of}
use Rattle.rc_base.specs.Orders.Sync.{IsWellFormed, sync_lists_of}
use Rattle.rc_base.specs.declared.scene.Scene.{Scene}
use Rattle.rc_base.specs.declared.window.Layout.{Layout}
use Rattle.order_model.specs.Standing.{performed_in}
use Rattle.world_model.specs.declared.moves.Move.{Move}
use Rattle.world_model.specs.Flowing.{asks, IsFlowing}
use Rattle.world_model.specs.Runs.{IsSteppedRun}
use Rattle.world_model.specs.Turns.{Turn, IsTurnSeeing, AreTurns, IsResting}
use Rattle.world_model.specs.World.{World, Lanes, client_total, IsNewWorld}

-- the sum of the first n numbers
abbrev pub total : (ℕ → ℕ) → ℕ → ℕ
total f zero = 0
total f (suc n) = total f n + f n

abbrev pub one_unless : Bool → ℕ
one_unless done = cond done 0 1

-- operations of the client that arrived, that wait in its lane, and that it has still to send
abbrev pub operations : World → ℕ → ℕ
operations w client = asks (requests_in (w.clients client).left) + asks (w.requests client) + length (w.manager.book.arrived client)

-- a journal has at most one entry for each
abbrev pub most_in : Scene → World → ℕ
most_in scene w = total (operations w) (client_total scene)

-- items to be sent, which are to be taken then, and requests to be taken
abbrev pub client_work : World → ℕ → ℕ
client_work w client = length (w.clients client).left + length (w.clients client).left + one_unless (w.clients client).short + length (w.requests client)

-- entries and NoMore to be appended for a tile
abbrev pub due_to : Scene → World → ℕ → ℕ
due_to scene w tile = most_in scene w - w.manager.delivered tile + one_unless (w.manager.told tile)

-- each is to be appended, taken and performed; entries that it knows; and parcels to be taken
abbrev pub tile_work : Scene → World → ℕ → ℕ
tile_work scene w tile =
    (due_to scene w tile + due_to scene w tile + due_to scene w tile) + (length (w.grants tile) + length (w.grants tile))
    + (length (w.tiles tile).progress.learnt - performed_in (w.tiles tile).progress.log) + one_unless (w.tiles tile).short
    + total (λ client. length (w.parcels client tile)) (client_total scene)

-- and entries that may be granted
abbrev pub work_in : Scene → Layout → World → ℕ
work_in scene l w =
    total (client_work w) (client_total scene) + (most_in scene w - length w.manager.book.journal) + one_unless w.manager.short
    + total (tile_work scene w) (tile_count l)

-- ---- turns

-- whatever an actor saw of its lanes
abbrev pub TurnsLeaveLess : Type 0
TurnsLeaveLess =
    (scene : Scene) (l : Layout) (depth : ℕ) (w later : World) (seen : Lanes) (turn : Turn) → IsWellFormed (sync_lists_of scene) → IsFlowing scene l w
    → IsTurnSeeing scene l depth w seen turn later → (IsResting turn → ⊥) → work_in scene l later < work_in scene l w

-- and no turn leaves more
abbrev pub TurnsLeaveNoMore : Type 0
TurnsLeaveNoMore =
    (scene : Scene) (l : Layout) (depth : ℕ) (w later : World) (seen : Lanes) (turn : Turn) → IsWellFormed (sync_lists_of scene) → IsFlowing scene l w
    → IsTurnSeeing scene l depth w seen turn later → work_in scene l later ≤ work_in scene l w

-- so turns one after the other, of which one isn't at rest, leave less
abbrev pub RoundsLeaveLess : Type 0
RoundsLeaveLess =
    (scene : Scene) (l : Layout) (depth : ℕ) (w later : World) (turns : List Turn) → IsWellFormed (sync_lists_of scene) → IsFlowing scene l w
    → AreTurns scene l depth w turns later → (AllByRecursion IsResting turns → ⊥) → work_in scene l later < work_in scene l w

-- ---- at first

-- a new world of few clients with short streams, on few tiles, has little to do
abbrev pub NewWorldsHaveLittleToDo : Type 0
NewWorldsHaveLittleToDo =
    (scene : Scene) (l : Layout) (w : World) → IsNewWorld scene l w → client_total scene ≤ 8 → tile_count l ≤ 32
    → ((client : ℕ) → length (stream_of scene client) ≤ 2 ^ 20) → work_in scene l w < 2 ^ 40

-- and so have the worlds of its runs
abbrev pub SteppedRunsHaveLittleToDo : Type 0
SteppedRunsHaveLittleToDo =
    (scene : Scene) (l : Layout) (depth : ℕ) (picks : List ℕ) (moves : List Move) (w : World) → IsWellFormed (sync_lists_of scene)
    → IsSteppedRun scene l depth picks moves w → client_total scene ≤ 8 → tile_count l ≤ 32
    → ((client : ℕ) → length (stream_of scene client) ≤ 2 ^ 20) → work_in scene l w < 2 ^ 40
