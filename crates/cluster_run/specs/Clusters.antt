-- The workers of a cluster, before their first step and at their ends. Each is told of by its own core and ends alone; the names of the lanes tie them.
use Rattle.std.specs.Prelude.{◌≡◌, ◌<◌, ℕ, true, List, length, slice_index_or}
use Rattle.rc_base.specs.Cluster.Tiles.{tile_count}
use Rattle.rc_base.specs.Formats.Within.{IsWithin}
use Rattle.rc_base.specs.Orders.Sync.{sync_lists_of}
use Rattle.rc_base.specs.declared.cluster.TilePart.{TilePart}
use Rattle.rc_base.specs.declared.scene.Decl.{Decl}
use Rattle.rc_base.specs.declared.scene.Scene.{Scene}
use Rattle.rc_base.specs.declared.window.Layout.{Layout}
use Rattle.frame_out.specs.Laws.{HasWindow}
use Rattle.tile_queues.specs.Ends.{lane_depth}
use Rattle.tile_queues.specs.Names.{AreOutOf}
use Rattle.tile_queues.specs.declared.ends.LaneOut.{LaneOut}
use Rattle.worker_crew.specs.Crews.{HaveEnded}
use Rattle.worker_crew.specs.declared.crew.Crew.{Crew}
use Rattle.worker_crew.specs.declared.task.Task.{Task}
use Rattle.cluster_run.specs.Clients.{IsClientWorker, ClientLeads}
use Rattle.cluster_run.specs.Managers.{IsManagerWorker, ManagerLeads}
use Rattle.cluster_run.specs.Tiles.{IsTileWorker, TileLeads}
use Rattle.cluster_run.specs.declared.workers.ClientWorker.{ClientWorker}
use Rattle.cluster_run.specs.declared.workers.ManagerWorker.{ManagerWorker}
use Rattle.cluster_run.specs.declared.workers.TileWorker.{TileWorker}

-- the names of the lanes: of parcels by client and tile, of requests by client, of grants and of parts by tile
pub record LaneNames : Type 0 where
  pub parcels : ℕ → ℕ → List ℕ
  pub requests : ℕ → List ℕ
  pub grants : ℕ → List ℕ
  pub parts : ℕ → List ℕ

-- each of so many lanes holds so many items at most
pub record AreSoDeep (clients tiles depth : ℕ) (names : LaneNames) : Type 0 where
  pub parcels : (c t : ℕ) → c < clients → t < tiles → lane_depth (names.parcels c t) ≡ depth
  pub requests : (c : ℕ) → c < clients → lane_depth (names.requests c) ≡ depth
  pub grants : (t : ℕ) → t < tiles → lane_depth (names.grants t) ≡ depth
  pub parts : (t : ℕ) → t < tiles → lane_depth (names.parts t) ≡ depth

module _ {R : Type 0} where
  -- the workers of a scene on the tiles of a layout, with lanes of these names
  pub record IsCluster (scene : Scene) (l : Layout) (names : LaneNames) (crew : Crew (ClientWorker R) (ManagerWorker R) (TileWorker R)) : Type 0 where
    pub clients : length crew.clients.items ≡ length scene.streams
    pub tiles : length crew.tiles.items ≡ tile_count l
    pub client : (c : ℕ) (w : ClientWorker R) → c < length scene.streams
        → IsClientWorker scene l c (names.parcels c) (names.requests c) (slice_index_or crew.clients.items c w)
    pub manager : IsManagerWorker (sync_lists_of scene) (tile_count l) names.requests names.grants crew.manager
    pub tile : (t : ℕ) (w : TileWorker R) → t < tile_count l
        → IsTileWorker scene l t (λ c. names.parcels c t) (names.grants t) (names.parts t) (slice_index_or crew.tiles.items t w)

  -- and each has ended
  pub record IsEndedCluster (scene : Scene) (l : Layout) (names : LaneNames) (tasks : Crew (Task (ClientWorker R)) (Task (ManagerWorker R)) (Task (TileWorker R)))
      : Type 0 where
    pub clients : length tasks.clients.items ≡ length scene.streams
    pub tiles : length tasks.tiles.items ≡ tile_count l
    pub client : (c : ℕ) (w : Task (ClientWorker R)) → c < length scene.streams
        → IsClientWorker scene l c (names.parcels c) (names.requests c) (slice_index_or tasks.clients.items c w).worker
    pub clients_end : (c : ℕ) (w : Task (ClientWorker R)) → c < length scene.streams → (slice_index_or tasks.clients.items c w).worker.ended ≡ true
    pub manager : IsManagerWorker (sync_lists_of scene) (tile_count l) names.requests names.grants tasks.manager.worker
    pub manager_ends : tasks.manager.worker.ended ≡ true
    pub tile : (t : ℕ) (w : Task (TileWorker R)) → t < tile_count l
        → IsTileWorker scene l t (λ c. names.parcels c t) (names.grants t) (names.parts t) (slice_index_or tasks.tiles.items t w).worker
    pub tiles_end : (t : ℕ) (w : Task (TileWorker R)) → t < tile_count l → (slice_index_or tasks.tiles.items t w).worker.ended ≡ true

  -- The scene is within the limits, it declares this and has the layout's window, its workers have ended, and by these ends their parts of frames come.
  pub record IsEndedRun (scene : Scene) (decl : Decl) (l : Layout) (names : LaneNames)
      (tasks : Crew (Task (ClientWorker R)) (Task (ManagerWorker R)) (Task (TileWorker R))) (parts : List (LaneOut TilePart R)) : Type 0 where
    pub within : IsWithin scene
    pub decl_is : decl ≡ scene.decl
    pub window : HasWindow scene l
    pub cluster : IsEndedCluster scene l names tasks
    pub parts_are : AreOutOf (tile_count l) names.parts parts

  -- what a run of the crew makes of it
  abbrev pub HasRun : Crew (ClientWorker R) (ManagerWorker R) (TileWorker R) → Crew (Task (ClientWorker R)) (Task (ManagerWorker R)) (Task (TileWorker R)) → Type 0
  HasRun crew tasks = HaveEnded ClientLeads (λ w. w.ended ≡ true) ManagerLeads (λ w. w.ended ≡ true) TileLeads (λ w. w.ended ≡ true) crew tasks

-- so a cluster that has run has ended
abbrev pub ClustersEnd : Type 0 → Type 0
ClustersEnd R = (scene : Scene) (l : Layout) (names : LaneNames) (crew : Crew (ClientWorker R) (ManagerWorker R) (TileWorker R))
    (tasks : Crew (Task (ClientWorker R)) (Task (ManagerWorker R)) (Task (TileWorker R))) → IsCluster scene l names crew → HasRun crew tasks → IsEndedCluster scene l names tasks
