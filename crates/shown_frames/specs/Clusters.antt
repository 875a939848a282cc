-- Clusters in which anybody may lack memory: what was sent to each lane, what was taken of it, and what the tiles have shown.
use Rattle.std.specs.Prelude.{◌≡◌, ℕ, ◌+◌, ◌<◌, ◌≤◌, Bool, List, ◌++◌, length, Some, slice_get}
use Rattle.rc_base.specs.Cluster.Tiles.{tile_count}
use Rattle.rc_base.specs.Lists.{IsFront}
use Rattle.rc_base.specs.Orders.Sync.{IsWellFormed, sync_lists_of}
use Rattle.rc_base.specs.declared.cluster.TilePart.{TilePart}
use Rattle.rc_base.specs.declared.scene.Scene.{Scene}
use Rattle.rc_base.specs.declared.state.Parcel.{Parcel}
use Rattle.rc_base.specs.declared.sync.Grant.{Grant}
use Rattle.rc_base.specs.declared.sync.Request.{Request}
use Rattle.rc_base.specs.declared.window.Layout.{Layout}
use Rattle.client_issue.specs.Clauses.{IsClientClause}
use Rattle.client_issue.specs.declared.client.ClientCore.{ClientCore}
use Rattle.order_model.specs.Report.{frame_count, tile_order}
use Rattle.order_model.specs.Sent.{IsRecordOf}
use Rattle.order_model.specs.declared.record.Record.{Record}
use Rattle.run_record.specs.Collected.{IsSmall}
use Rattle.sync_manager.specs.Clauses.{IsManagerClause}
use Rattle.sync_manager.specs.declared.manager.ManagerCore.{ManagerCore}
use Rattle.tile_model.specs.Scenes.{IsInRange, HasSides}
use Rattle.tile_server.specs.Laws.{IsFramePart}
use Rattle.shown_frames.specs.Shown.{AreBlank, HasShown}

-- ---- with their lanes

-- a client's core meets its clause, whether memory lacked in it or not
pub record IsSending (scene : Scene) (l : Layout) (client : ℕ) (sent : ℕ → List Parcel) (asked : List Request) : Type 0 where
  pub core : ClientCore
  pub ended : Bool
  pub clause : IsClientClause scene l client core sent asked ended

-- and so the manager's
pub record IsManaging (scene : Scene) (l : Layout) (received : ℕ → List Request) (granted : ℕ → List Grant) : Type 0 where
  pub core : ManagerCore
  pub ended : Bool
  pub clause : IsManagerClause (sync_lists_of scene) (tile_count l) core received granted ended

-- Each core meets its clause, and each tile has shown so, over the lists of its own lanes. Of each lane a front of what was sent to it was taken.
pub record AreShowing (scene : Scene) (l : Layout) (shown : ℕ → List TilePart) : Type 0 where
  -- what was sent: by clients and tiles, by clients, by tiles
  pub sent : ℕ → ℕ → List Parcel
  pub asked : ℕ → List Request
  pub granted : ℕ → List Grant
  -- what was taken: by tiles and clients, by clients, by tiles
  pub took : ℕ → ℕ → List Parcel
  pub received : ℕ → List Request
  pub heard : ℕ → List Grant
  pub client : (client : ℕ) → client < length scene.streams → IsSending scene l client (sent client) (asked client)
  pub managed : IsManaging scene l received granted
  pub tile : (tile : ℕ) → tile < tile_count l → HasShown scene l tile (took tile) (heard tile) (shown tile)
  pub parcel_lanes : (client tile : ℕ) → client < length scene.streams → tile < tile_count l → IsFront (took tile client) (sent client tile)
  pub request_lanes : (client : ℕ) → client < length scene.streams → IsFront (received client) (asked client)
  pub grant_lanes : (tile : ℕ) → tile < tile_count l → IsFront (heard tile) (granted tile)

-- ---- without lanes

-- A tile has shown first its parts of the first frames of a record, each the tile's pixels of that frame in the order that its log records, and then
-- parts without pixels.
pub record AreFirstParts (scene : Scene) (l : Layout) (kept : Record) (tile : ℕ) (parts : List TilePart) : Type 0 where
  pub whole : List TilePart
  pub blank : List TilePart
  pub parts_are : parts ≡ whole ++ blank
  pub blank_are : AreBlank blank
  pub few : length whole ≤ frame_count kept.journal
  pub each : (k : ℕ) (part : TilePart) → slice_get whole k ≡ Some part → IsFramePart scene l (tile_order kept tile) tile (k + 1) part

-- A whole run of the scene, as it could have been, shows first what the tiles have shown.
pub record BeginsSo (scene : Scene) (l : Layout) (shown : ℕ → List TilePart) (kept : Record) : Type 0 where
  pub lawful : IsRecordOf scene l kept
  pub parts : (tile : ℕ) → tile < tile_count l → AreFirstParts scene l kept tile (shown tile)

-- so it is whoever is short
abbrev pub ShownPartsBeginAWholeRun : Type 0
ShownPartsBeginAWholeRun =
    (scene : Scene) (l : Layout) (shown : ℕ → List TilePart) → IsWellFormed (sync_lists_of scene) → IsSmall scene → IsInRange scene → HasSides scene.decl
    → AreShowing scene l shown → (kept : Record) × BeginsSo scene l shown kept
