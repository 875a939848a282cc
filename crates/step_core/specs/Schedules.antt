-- What a world is seen as, and what a schedule leads to.
use Rattle.std.specs.Prelude.{◌≡◌, ℕ, ◌<◌, List, map, length, Some, slice_get}
use Rattle.rc_base.specs.Cluster.Tiles.{tile_count}
use Rattle.rc_base.specs.Orders.Journal.{IsLegal}
use Rattle.rc_base.specs.Orders.Sync.{sync_lists_of}
use Rattle.rc_base.specs.declared.scene.Scene.{Scene}
use Rattle.rc_base.specs.declared.sync.Entry.{Entry}
use Rattle.rc_base.specs.declared.window.Layout.{Layout}
use Rattle.order_model.specs.Log.{Replays}
use Rattle.order_model.specs.Sent.{jobs_of}
use Rattle.order_model.specs.declared.record.LogEntry.{LogEntry}
use Rattle.world_model.specs.Runs.{actor_of, IsSteppedRun}
use Rattle.world_model.specs.World.{World as Model}
use Rattle.world_model.specs.declared.moves.Move.{Move}

-- The scene, the layout and the depth that it was made for, one move for each pick, the journal, and the log of each tile.
pub record WorldView : Type 0 where
  pub scene : Scene
  pub layout : Layout
  pub depth : ℕ
  pub moves : List Move
  pub journal : List Entry
  pub logs : List (List LogEntry)

-- the actors that were picked
abbrev pub picks_of : WorldView → List ℕ
picks_of world = map (actor_of world.scene) world.moves

-- The moves are right for the picks: the j-th is the j-th pick's actor's, and follows from the actors and lanes as the moves before it left them. The
-- journal and the logs are those to which they lead.
pub record IsRightFor (picks : List ℕ) (world : WorldView) : Type 0 where
  pub model : Model
  pub run : IsSteppedRun world.scene world.layout world.depth picks world.moves model
  pub journal : world.journal ≡ model.manager.book.journal
  pub count : length world.logs ≡ tile_count world.layout
  pub logs : (tile : ℕ) → tile < tile_count world.layout → slice_get world.logs tile ≡ Some (model.tiles tile).progress.log

-- the journal is legal, and each tile's log replays over it
pub record IsLegalIn (world : WorldView) : Type 0 where
  pub legal : IsLegal (sync_lists_of world.scene) world.journal
  pub replays : (tile : ℕ) (log : List LogEntry) → slice_get world.logs tile ≡ Some log
      → Replays (sync_lists_of world.scene) world.journal (λ client. jobs_of world.scene world.layout client tile) log
