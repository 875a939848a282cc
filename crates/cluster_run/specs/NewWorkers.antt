-- Workers that have moved nothing. Whatever lists are empty, a new worker's clause holds with them.
use Rattle.std.specs.Prelude.{◌≡◌, ◌<◌, ℕ, false, List, [], Vec, length, slice_index_or, None}
use Rattle.std.specs.Global.{Global}
use Rattle.rc_base.specs.Cluster.Tiles.{tile_count}
use Rattle.rc_base.specs.Formats.Within.{IsWithin}
use Rattle.rc_base.specs.Lists.{ArePaired}
use Rattle.rc_base.specs.Orders.Sync.{client_count, sync_lists_of}
use Rattle.rc_base.specs.declared.cluster.TilePart.{TilePart}
use Rattle.rc_base.specs.declared.scene.Decl.{Decl}
use Rattle.rc_base.specs.declared.scene.Scene.{Scene}
use Rattle.rc_base.specs.declared.state.Parcel.{Parcel}
use Rattle.rc_base.specs.declared.sync.Grant.{Grant}
use Rattle.rc_base.specs.declared.sync.Request.{Request}
use Rattle.rc_base.specs.declared.window.Layout.{Layout}
use Rattle.client_issue.specs.Clauses.{IsClientClause}
use Rattle.sync_manager.specs.Clauses.{IsManagerClause}
use Rattle.tile_server.specs.Clauses.{IsTileClause}
use Rattle.tile_server.specs.Cores.{is_short}
use Rattle.tile_queues.specs.Ends.{taken_of}
use Rattle.tile_queues.specs.declared.ends.LaneIn.{LaneIn}
use Rattle.tile_queues.specs.declared.ends.LaneOut.{LaneOut}
use Rattle.tile_queues.specs.Grids.{IsFresh}
use Rattle.tile_queues.specs.Names.{AreOutOf}
use Rattle.cluster_run.specs.declared.workers.ClientWorker.{ClientWorker}
use Rattle.cluster_run.specs.declared.workers.ManagerWorker.{ManagerWorker}
use Rattle.cluster_run.specs.declared.workers.TileWorker.{TileWorker}

-- a scene within the limits that declares this, of so many clients
pub record IsSceneOf (scene : Scene) (decl : Decl) (clients : ℕ) : Type 0 where
  pub within : IsWithin scene
  pub decl_is : decl ≡ scene.decl
  pub clients_are : clients ≡ length scene.streams

module _ {R : Type 0} where
  -- a client's worker, with these ends to the tiles
  pub record IsNewClient (scene : Scene) (l : Layout) (client : ℕ) (ends : Vec (LaneIn Parcel R) Global) (w : ClientWorker R) : Type 0 where
    pub number_is : w.number ≡ client
    pub tiles_are : w.tiles ≡ ends
    pub clause : (sent : ℕ → List Parcel) → ((tile : ℕ) → tile < tile_count l → sent tile ≡ []) → IsClientClause scene l client w.core sent [] w.ended

  -- one for each row of ends, each with a new lane of that depth to the manager
  pub record AreNewClients (scene : Scene) (l : Layout) (depth : ℕ) (rows : List (Vec (LaneIn Parcel R) Global)) (workers : List (ClientWorker R))
      (requests : List (LaneOut Request R)) : Type 0 where
    pub workers_are : ArePaired (λ client ends w. IsNewClient scene l client ends w) rows workers
    pub requests_are : ArePaired (λ client w b. IsFresh depth w.requests b) workers requests

  -- a tile's worker, with these ends from the clients
  pub record IsNewTile (scene : Scene) (l : Layout) (tile : ℕ) (ends : Vec (LaneOut Parcel R) Global) (w : TileWorker R) : Type 0 where
    pub number_is : w.number ≡ tile
    pub clients_are : w.clients ≡ ends
    pub none_waits : w.held ≡ None
    pub ample : is_short w.core ≡ false
    pub clause : (took : ℕ → List Parcel) → ((client : ℕ) → client < length scene.streams → took client ≡ []) → IsTileClause scene l tile w.core took [] [] w.ended

  -- one for each column of ends, each with a new lane of that depth from the manager, and one of its parts to the caller
  pub record AreNewTiles (scene : Scene) (l : Layout) (depth : ℕ) (columns : List (Vec (LaneOut Parcel R) Global)) (workers : List (TileWorker R))
      (grants : List (LaneIn Grant R)) (parts : List (LaneOut TilePart R)) : Type 0 where
    pub workers_are : ArePaired (λ tile ends w. IsNewTile scene l tile ends w) columns workers
    pub grants_are : ArePaired (λ tile w a. IsFresh depth a w.grants) workers grants
    pub parts_are : ArePaired (λ tile w b. IsFresh depth w.parts b) workers parts

  -- receiving ends of the lanes of these names, by which nothing was taken
  pub record AreUntaken (count : ℕ) (names : ℕ → List ℕ) (ends : List (LaneOut TilePart R)) : Type 0 where
    pub named : AreOutOf count names ends
    pub nothing : (i : ℕ) (d : LaneOut TilePart R) → i < count → taken_of (slice_index_or ends i d) ≡ []

  -- the manager's worker, with these ends from the clients and to the tiles
  pub record IsNewManager (scene : Scene) (tiles : ℕ) (requests : Vec (LaneOut Request R) Global) (grants : Vec (LaneIn Grant R) Global) (w : ManagerWorker R)
      : Type 0 where
    pub requests_are : w.requests ≡ requests
    pub grants_are : w.grants ≡ grants
    pub clause : (took : ℕ → List Request) (sent : ℕ → List Grant) → ((client : ℕ) → client < client_count (sync_lists_of scene) → took client ≡ [])
        → ((tile : ℕ) → tile < tiles → sent tile ≡ []) → IsManagerClause (sync_lists_of scene) tiles w.core took sent w.ended
