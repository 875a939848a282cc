-- What callers say of runs of a cluster.
use Rattle.std.specs.Prelude.{ℕ, ◌+◌, ◌<◌, ◌≤◌, not, Bool, false, List, Option, count_by, min, slice_index_or}
use Rattle.rc_base.specs.Cluster.Tiles.{tile_count}
use Rattle.rc_base.specs.Outside.Causes.{last_count}
use Rattle.rc_base.specs.declared.cluster.Tally.{Tally}
use Rattle.rc_base.specs.declared.scene.Scene.{Scene}
use Rattle.rc_base.specs.declared.state.Fault.{Fault}
use Rattle.rc_base.specs.declared.sync.Waiting.{Waiting}
use Rattle.rc_base.specs.declared.window.Layout.{Layout}
use Rattle.order_model.specs.declared.record.Record.{Record}
use Rattle.tile_queues.specs.Ends.{fulls_of}
use Rattle.worker_crew.specs.declared.task.Task.{Task}
use Rattle.cluster_run.specs.Steps.{TileTurn}
use Rattle.cluster_run.specs.Steps.TileTurn.{StepsCore, HandsOver, DrawsBlock}
use Rattle.cluster_run.specs.Workers.{IsRunOfWorkers}
use Rattle.cluster_run.specs.declared.workers.TileWorker.{TileWorker}

-- a turn leaves a part waiting
abbrev pub leaves_waiting : TileTurn → Bool
leaves_waiting (StepsCore deed offered sent) = not sent
leaves_waiting (HandsOver part sent) = not sent
leaves_waiting DrawsBlock = false

-- The workers have run, and at the end of each tile's lane of parts the count of refusals has risen by each of the tile's turns that left a part waiting, up to the type's end.
pub record CountsWaits (R : Type 0) (scene : Scene) (l : Layout) (depth : ℕ) (kept : Record) (tallies : List Tally) (waiting : Option Waiting)
    (faults : List (List (ℕ × Fault))) : Type 0 where
  pub run : IsRunOfWorkers R scene l depth kept tallies waiting faults
  pub counted : (t : ℕ) (w : TileWorker R) (task : Task (TileWorker R)) (low : t < tile_count l)
      → min (fulls_of (slice_index_or run.crew.tiles.items t w).parts + count_by leaves_waiting (run.turned.tile t w task low).turns) last_count
      ≤ fulls_of (slice_index_or run.tasks.tiles.items t task).worker.parts
