-- What a run of a scene leaves and tells.
use Rattle.std.specs.Prelude.{◌≡◌, ℕ, ◌+◌, ◌*◌, ◌<◌, ◌↔◌, true, List, [], Option, IsSome, IfSome, length, Some, None, slice_get, slice_index_or}
use Rattle.rc_base.specs.Contexts.Issue.{faults_of}
use Rattle.rc_base.specs.Orders.Journal.{waiting_of}
use Rattle.rc_base.specs.Orders.Sync.{sync_lists_of}
use Rattle.rc_base.specs.Cluster.Looks.{look_count}
use Rattle.rc_base.specs.Cluster.Parcels.{set_count}
use Rattle.rc_base.specs.Cluster.Tiles.{tile_count}
use Rattle.rc_base.specs.declared.cluster.Tally.{Tally}
use Rattle.rc_base.specs.declared.cluster.TilePart.{TilePart}
use Rattle.rc_base.specs.declared.scene.Scene.{Scene}
use Rattle.rc_base.specs.declared.state.Fault.{Fault}
use Rattle.rc_base.specs.declared.sync.Entry.{Entry}
use Rattle.rc_base.specs.declared.sync.Waiting.{Waiting}
use Rattle.rc_base.specs.declared.window.Layout.{Layout}
use Rattle.client_issue.specs.Cores.{no_tally}
use Rattle.order_model.specs.Report.{frame_count, is_stuck, summed, tile_order}
use Rattle.order_model.specs.Sent.{IsRecordOf}
use Rattle.order_model.specs.declared.record.Record.{Record}
use Rattle.tile_server.specs.Laws.{IsFramePart}

-- One part for each frame and tile, frames rising and in each the tiles rising: the tile's pixels of that frame in the order that the tile's log records.
pub record AreFrameParts (scene : Scene) (l : Layout) (kept : Record) (parts : List TilePart) : Type 0 where
  pub count : length parts ≡ frame_count kept.journal * tile_count l
  pub each : (frame tile : ℕ) (part : TilePart) → tile < tile_count l → slice_get parts (frame * tile_count l + tile) ≡ Some part
      → IsFramePart scene l (tile_order kept tile) tile (frame + 1) part

-- Each tile has shown one part for each frame: its pixels of that frame in the order that its log records.
pub record HaveFrames (scene : Scene) (l : Layout) (kept : Record) (shown : ℕ → List TilePart) : Type 0 where
  pub count : (tile : ℕ) → tile < tile_count l → length (shown tile) ≡ frame_count kept.journal
  pub each : (frame tile : ℕ) (part : TilePart) → tile < tile_count l → slice_get (shown tile) frame ≡ Some part
      → IsFramePart scene l (tile_order kept tile) tile (frame + 1) part

-- For each tile the numbers of parcels and of sets that all clients sent to it, and of the looks that these cost, those beyond a place where a client
-- waits for ever among them.
pub record AreTallies (scene : Scene) (l : Layout) (tallies : List Tally) : Type 0 where
  pub count : length tallies ≡ tile_count l
  pub parcels : (tile : ℕ) → tile < tile_count l → (slice_index_or tallies tile no_tally).parcels ≡ summed scene l tile (λ client parcels. length parcels)
  pub sets : (tile : ℕ) → tile < tile_count l → (slice_index_or tallies tile no_tally).sets ≡ summed scene l tile (λ client parcels. set_count parcels)
  pub looks : (tile : ℕ) → tile < tile_count l → (slice_index_or tallies tile no_tally).looks ≡ summed scene l tile (λ client parcels. look_count scene l client tile parcels)

-- the refused commands of each client's whole stream
pub record AreFaults (scene : Scene) (faults : List (List (ℕ × Fault))) : Type 0 where
  pub clients : length faults ≡ length scene.streams
  pub each : (client : ℕ) → slice_index_or faults client [] ≡ faults_of scene client

-- who waits for ever, if anybody does
pub record IsWaiting (scene : Scene) (journal : List Entry) (waiting : Option Waiting) : Type 0 where
  pub stuck : IsSome waiting ↔ (is_stuck (sync_lists_of scene) journal ≡ true)
  pub waits : IfSome waiting (λ w. (client : ℕ) → slice_index_or w.at client None ≡ waiting_of (sync_lists_of scene) journal client)

-- What is left of a run of the scene on the tiles of the layout, but its parts: a lawful record, what was sent, who waits, and what was refused.
pub record IsRun (scene : Scene) (l : Layout) (kept : Record) (tallies : List Tally) (waiting : Option Waiting) (faults : List (List (ℕ × Fault))) : Type 0 where
  pub lawful : IsRecordOf scene l kept
  pub tallies_are : AreTallies scene l tallies
  pub waiting_is : IsWaiting scene kept.journal waiting
  pub faults_are : AreFaults scene faults
