-- Runs that aren't over, and whole runs that begin with them.
use Rattle.std.specs.Prelude.{ℕ, ◌<◌, List, [], slice_index_or}
use Rattle.rc_base.specs.Cluster.Tiles.{tile_count}
use Rattle.rc_base.specs.Lists.{IsFront}
use Rattle.rc_base.specs.Orders.Journal.{IsLegal}
use Rattle.rc_base.specs.Orders.Sync.{IsWellFormed, sync_lists_of}
use Rattle.rc_base.specs.declared.scene.Scene.{Scene}
use Rattle.rc_base.specs.declared.sync.Entry.{Entry}
use Rattle.rc_base.specs.declared.window.Layout.{Layout}
use Rattle.order_model.specs.Log.{Replays}
use Rattle.order_model.specs.Sent.{jobs_of, IsRecordOf}
use Rattle.order_model.specs.declared.record.LogEntry.{LogEntry}
use Rattle.order_model.specs.declared.record.Record.{Record}

-- the journal so far is legal, and what each tile has carried out replays over it
pub record IsUnfinished (scene : Scene) (l : Layout) (journal : List Entry) (logs : ℕ → List LogEntry) : Type 0 where
  pub legal : IsLegal (sync_lists_of scene) journal
  pub replays : (tile : ℕ) → tile < tile_count l → Replays (sync_lists_of scene) journal (λ client. jobs_of scene l client tile) (logs tile)

-- the record of a whole run of the scene begins with them
pub record BeginsWith (scene : Scene) (l : Layout) (journal : List Entry) (logs : ℕ → List LogEntry) (kept : Record) : Type 0 where
  pub lawful : IsRecordOf scene l kept
  pub journal_is : IsFront journal kept.journal
  pub logs_are : (tile : ℕ) → tile < tile_count l → IsFront (logs tile) (slice_index_or kept.logs tile [])

-- whatever was carried out so far, it goes on to a whole run
abbrev pub UnfinishedRunsGoOn : Type 0
UnfinishedRunsGoOn =
    (scene : Scene) (l : Layout) (journal : List Entry) (logs : ℕ → List LogEntry) → IsWellFormed (sync_lists_of scene)
    → IsUnfinished scene l journal logs → (kept : Record) × BeginsWith scene l journal logs kept
