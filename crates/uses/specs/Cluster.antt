-- What callers say of parts, of tallies and of crews.
use Rattle.std.specs.Prelude.{◌≡◌, ℕ, ◌<◌, ◌≤◌, ◌⊎◌, List, ◌∷◌, Option, length, min, slice_index_or}
use Rattle.rc_base.specs.Cluster.PlainLanes.{held}
use Rattle.rc_base.specs.Cluster.Tiles.{tile_count}
use Rattle.rc_base.specs.Outside.Causes.{last_count}
use Rattle.rc_base.specs.declared.cluster.Tally.{Tally}
use Rattle.rc_base.specs.declared.cluster.TilePart.{TilePart}
use Rattle.rc_base.specs.declared.image.Image.{Image}
use Rattle.rc_base.specs.declared.plain_lane.PlainLane.{PlainLane}
use Rattle.rc_base.specs.declared.scene.Scene.{Scene}
use Rattle.rc_base.specs.declared.state.Fault.{Fault}
use Rattle.rc_base.specs.declared.state.Parcel.{Parcel}
use Rattle.rc_base.specs.declared.sync.Waiting.{Waiting}
use Rattle.rc_base.specs.declared.window.Layout.{Layout}
use Rattle.order_model.specs.declared.record.Record.{Record}
use Rattle.client_issue.specs.Cores.{no_tally, tally_of_tile}
use Rattle.client_issue.specs.declared.client.ClientCore.{ClientCore}
use Rattle.tile_queues.specs.Ends.{lane_depth, lane_in}
use Rattle.tile_queues.specs.declared.ends.LaneIn.{LaneIn}
use Rattle.worker_crew.specs.declared.crew.Crew.{Crew}
use Rattle.worker_crew.specs.declared.task.Task.{Task}
use Rattle.cluster_run.specs.Workers.{IsRunOfWorkers}
use Rattle.cluster_run.specs.declared.workers.ClientWorker.{ClientWorker}

-- a lane holds what it held, or all of it but the first part
abbrev pub GivesOneAtMost : PlainLane TilePart → PlainLane TilePart → Type 0
GivesOneAtMost before after = (held after ≡ held before) ⊎ ((part : TilePart) × (held before ≡ part ∷ held after))

-- so of each lane
abbrev pub GiveOneAtMost : List (PlainLane TilePart) → List (PlainLane TilePart) → Type 0
GiveOneAtMost before after = (tile : ℕ) (d : PlainLane TilePart) → tile < length before → GivesOneAtMost (slice_index_or before tile d) (slice_index_or after tile d)

-- each byte of the image is 0
abbrev pub IsBlack : Image → Type 0
IsBlack m = (i : ℕ) → slice_index_or m.rgb i 0 ≡ 0

-- the tallies count no fewer parcels to a tile than any client has sent there, up to their type's end
abbrev pub CountEach : List ClientCore → ℕ → List Tally → Type 0
CountEach cores tiles sums =
    (client tile : ℕ) (d : ClientCore) → client < length cores → tile < tiles
    → min (tally_of_tile (slice_index_or cores client d) tile).parcels last_count ≤ (slice_index_or sums tile no_tally).parcels

-- each worker of a crew has nothing left to do
pub record AreOver {A B C : Type 0} (a_over : A → Type 0) (b_over : B → Type 0) (c_over : C → Type 0) (tasks : Crew (Task A) (Task B) (Task C)) : Type 0 where
  pub clients : (i : ℕ) (d : Task A) → i < length tasks.clients.items → a_over (slice_index_or tasks.clients.items i d).worker
  pub manager : b_over tasks.manager.worker
  pub tiles : (i : ℕ) (d : Task C) → i < length tasks.tiles.items → c_over (slice_index_or tasks.tiles.items i d).worker

-- the workers have run, and each lane from a client to a tile holds so many items
pub record RanSoDeep (R : Type 0) (scene : Scene) (l : Layout) (depth : ℕ) (kept : Record) (tallies : List Tally) (waiting : Option Waiting) (faults : List (List (ℕ × Fault)))
    : Type 0 where
  pub run : IsRunOfWorkers R scene l depth kept tallies waiting faults
  pub deep : (client tile : ℕ) (w : Task (ClientWorker R)) (d : LaneIn Parcel R) → client < length scene.streams → tile < tile_count l
      → lane_depth (lane_in (slice_index_or (slice_index_or run.tasks.clients.items client w).worker.tiles.items tile d)) ≡ depth
