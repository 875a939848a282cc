-- Clusters in which all have ended, with what was sent to each lane and what was taken of it.
use Rattle.std.specs.Prelude.{◌≡◌, ℕ, ◌<◌, true, false, List, length, slice_index_or}
use Rattle.rc_base.specs.Lists.{IsFront}
use Rattle.rc_base.specs.Cluster.Parcels.{parcels_of}
use Rattle.rc_base.specs.Cluster.Tiles.{tile_count}
use Rattle.rc_base.specs.Orders.Book.{IsBookOver}
use Rattle.rc_base.specs.Orders.Sync.{sync_lists_of}
use Rattle.rc_base.specs.declared.cluster.TilePart.{TilePart}
use Rattle.rc_base.specs.declared.scene.Scene.{Scene}
use Rattle.rc_base.specs.declared.state.Parcel.{Parcel}
use Rattle.rc_base.specs.declared.sync.Entry.{Entry}
use Rattle.rc_base.specs.declared.sync.Grant.{Grant}
use Rattle.rc_base.specs.declared.sync.Request.{Request}
use Rattle.rc_base.specs.declared.window.Layout.{Layout}
use Rattle.client_issue.specs.Clauses.{counted, IsClientClause}
use Rattle.client_issue.specs.Cores.{short_of, tally_of_tile}
use Rattle.client_issue.specs.declared.client.ClientCore.{ClientCore}
use Rattle.order_model.specs.Gathering.{HasArrived}
use Rattle.order_model.specs.Sent.{jobs_of}
use Rattle.order_model.specs.Standing.{Progress, IsUnderWay, IsDone}
use Rattle.sync_manager.specs.Clauses.{IsManagerClause}
use Rattle.sync_manager.specs.Cores.{is_short as is_manager_short, IsProgressOf as IsManagerProgressOf}
use Rattle.sync_manager.specs.Progress.{ManagerProgress}
use Rattle.sync_manager.specs.declared.manager.ManagerCore.{ManagerCore}
use Rattle.tile_model.specs.Scenes.{IsInRange, HasSides}
use Rattle.tile_server.specs.Clauses.{AreTileFrames, IsTileClause}
use Rattle.tile_server.specs.Cores.{is_short, IsProgressOf}
use Rattle.tile_server.specs.declared.tile_core.TileCore.{TileCore}
use Rattle.run_record.specs.Gathering.{HaveSent}

-- ---- with their lanes

-- The client's core, its clause where it has ended, and that memory didn't lack.
pub record IsClientEnded (scene : Scene) (l : Layout) (client : ℕ) (core : ClientCore) (sent : ℕ → List Parcel) (asked : List Request) : Type 0 where
  pub clause : IsClientClause scene l client core sent asked true
  pub ample : short_of core ≡ false

pub record IsTileEnded (scene : Scene) (l : Layout) (this_tile : ℕ) (core : TileCore) (took : ℕ → List Parcel) (heard : List Grant) (parts : List TilePart) : Type 0 where
  pub clause : IsTileClause scene l this_tile core took heard parts true
  pub ample : is_short core ≡ false

-- All cores of a scene have ended, none of them is short, and each meets its clause over the lists of its own lanes and the parts that it has shown. Of
-- each lane a front of what was sent to it was taken.
pub record AreClosed (scene : Scene) (l : Layout) (clients : List ClientCore) (core : ManagerCore) (tiles : List TileCore) (shown : ℕ → List TilePart) : Type 0 where
  pub client_total : length clients ≡ length scene.streams
  pub tile_total : length tiles ≡ tile_count l
  -- what was sent: by clients and tiles, by clients, by tiles
  pub sent : ℕ → ℕ → List Parcel
  pub asked : ℕ → List Request
  pub granted : ℕ → List Grant
  -- what was taken: by tiles and clients, by clients, by tiles
  pub took : ℕ → ℕ → List Parcel
  pub received : ℕ → List Request
  pub heard : ℕ → List Grant
  pub client : (client : ℕ) (d : ClientCore) → client < length scene.streams → IsClientEnded scene l client (slice_index_or clients client d) (sent client) (asked client)
  pub managed : IsManagerClause (sync_lists_of scene) (tile_count l) core received granted true
  pub ample : is_manager_short core ≡ false
  pub tile : (tile : ℕ) (d : TileCore) → tile < tile_count l → IsTileEnded scene l tile (slice_index_or tiles tile d) (took tile) (heard tile) (shown tile)
  pub parcel_lanes : (client tile : ℕ) → client < length scene.streams → tile < tile_count l → IsFront (took tile client) (sent client tile)
  pub request_lanes : (client : ℕ) → client < length scene.streams → IsFront (received client) (asked client)
  pub grant_lanes : (tile : ℕ) → tile < tile_count l → IsFront (heard tile) (granted tile)

-- ---- without lanes

-- The tile's core stands for progress that is right for the scene and the journal, and done; its parts are the frames.
pub record IsTileFinished (scene : Scene) (l : Layout) (this_tile : ℕ) (journal : List Entry) (core : TileCore) (parts : List TilePart) : Type 0 where
  pub ample : is_short core ≡ false
  pub progress : Progress
  pub stands : IsProgressOf core progress
  pub under_way : IsUnderWay (sync_lists_of scene) journal (λ client. jobs_of scene l client this_tile) progress
  pub done : IsDone (sync_lists_of scene) journal progress
  pub frames : AreTileFrames scene l this_tile journal progress parts

-- The cores of a scene have ended: the clients have sent all, and counted it; the book of the manager is over, and what arrived are fronts of the scene's
-- operations; the tiles are done with its journal, and have shown the frames.
pub record AreDone (scene : Scene) (l : Layout) (clients : List ClientCore) (core : ManagerCore) (tiles : List TileCore) (shown : ℕ → List TilePart) : Type 0 where
  pub client_total : length clients ≡ length scene.streams
  pub tile_total : length tiles ≡ tile_count l
  pub sent : HaveSent scene l clients
  pub tallies : (client tile : ℕ) (d : ClientCore) → client < length clients → tile < tile_count l
      → tally_of_tile (slice_index_or clients client d) tile ≡ counted scene l client tile (parcels_of scene l client tile)
  pub progress : ManagerProgress
  pub stands : IsManagerProgressOf (sync_lists_of scene) core progress
  pub arrived : HasArrived (sync_lists_of scene) progress.book
  pub over : IsBookOver (sync_lists_of scene) progress.book
  pub tile : (tile : ℕ) (d : TileCore) → tile < tile_count l
      → IsTileFinished scene l tile progress.book.journal (slice_index_or tiles tile d) (shown tile)

-- no induction over steps of several actors is made: each has its own clause, and the lanes are closed one by one
abbrev pub ClosedRunsAreDone : Type 0
ClosedRunsAreDone = (scene : Scene) (l : Layout) (clients : List ClientCore) (core : ManagerCore) (tiles : List TileCore) (shown : ℕ → List TilePart)
    → IsInRange scene → HasSides scene.decl → AreClosed scene l clients core tiles shown → AreDone scene l clients core tiles shown
