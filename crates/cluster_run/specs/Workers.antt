-- A run as the turns that its workers took, each from its beginning to its end.
use Rattle.std.specs.Prelude.{◌≡◌, ◌<◌, ℕ, false, List, [], length, slice_index_or, option_to_list, Option, None}
use Rattle.std.specs.List.{flat_map}
use Rattle.rc_base.specs.Cluster.Tiles.{tile_count}
use Rattle.rc_base.specs.Lists.{ArePaired, IsFront}
use Rattle.rc_base.specs.declared.cluster.Tally.{Tally}
use Rattle.rc_base.specs.declared.scene.Decl.{Decl}
use Rattle.rc_base.specs.declared.scene.Scene.{Scene}
use Rattle.rc_base.specs.declared.cluster.TilePart.{TilePart}
use Rattle.rc_base.specs.declared.state.Fault.{Fault}
use Rattle.rc_base.specs.declared.state.Parcel.{Parcel}
use Rattle.rc_base.specs.declared.sync.Grant.{Grant}
use Rattle.rc_base.specs.declared.sync.Request.{Request}
use Rattle.rc_base.specs.declared.sync.Waiting.{Waiting}
use Rattle.rc_base.specs.declared.window.Layout.{Layout}
use Rattle.order_model.specs.declared.record.Record.{Record}
use Rattle.client_issue.specs.Deeds.{ClientDeed}
use Rattle.client_issue.specs.declared.client.ClientCore.{ClientCore}
use Rattle.sync_manager.specs.Cores.{is_short as is_manager_short}
use Rattle.sync_manager.specs.Progress.{sent_to, taken_of as received_by}
use Rattle.sync_manager.specs.declared.deed.ManagerDeed.{ManagerDeed}
use Rattle.tile_server.specs.Cores.{is_short as is_tile_short}
use Rattle.tile_server.specs.declared.tile_core.TileCore.{TileCore}
use Rattle.run_record.specs.Collected.{AreCollected}
use Rattle.tile_queues.specs.Ends.{sent_of, taken_of}
use Rattle.tile_queues.specs.declared.ends.LaneIn.{LaneIn}
use Rattle.tile_queues.specs.declared.ends.LaneOut.{LaneOut}
use Rattle.worker_crew.specs.declared.crew.Crew.{Crew}
use Rattle.worker_crew.specs.declared.task.Task.{Task}
use Rattle.cluster_run.specs.Apart.{IsAmpleClient, IsAmpleTile}
use Rattle.cluster_run.specs.Clusters.{LaneNames, AreSoDeep, IsCluster, IsEndedCluster}
use Rattle.cluster_run.specs.NewWorkers.{AreUntaken}
use Rattle.cluster_run.specs.Steps.{TileTurn, parcels_by, requests_by, parcels_in, grants_in, parts_by, IsClientTurn, IsManagerTurn, IsTileTurn}
use Rattle.cluster_run.specs.Turns.{AreWorkerTurns, TurnsLead}
use Rattle.cluster_run.specs.declared.workers.ClientWorker.{ClientWorker}
use Rattle.cluster_run.specs.declared.workers.ManagerWorker.{ManagerWorker}
use Rattle.cluster_run.specs.declared.workers.TileWorker.{TileWorker}

module _ {R : Type 0} where
  -- ---- before the first turn

  -- nothing went through the ends of a crew
  pub record AreUnused (clients tiles : ℕ) (crew : Crew (ClientWorker R) (ManagerWorker R) (TileWorker R)) : Type 0 where
    pub unsent : (c t : ℕ) (w : ClientWorker R) (a : LaneIn Parcel R) → c < clients → t < tiles
        → sent_of (slice_index_or (slice_index_or crew.clients.items c w).tiles.items t a) ≡ []
    pub unasked : (c : ℕ) (w : ClientWorker R) → c < clients → sent_of (slice_index_or crew.clients.items c w).requests ≡ []
    pub unreceived : (c : ℕ) (b : LaneOut Request R) → c < clients → taken_of (slice_index_or crew.manager.requests.items c b) ≡ []
    pub ungranted : (t : ℕ) (a : LaneIn Grant R) → t < tiles → sent_of (slice_index_or crew.manager.grants.items t a) ≡ []
    pub untaken : (t c : ℕ) (w : TileWorker R) (b : LaneOut Parcel R) → t < tiles → c < clients
        → taken_of (slice_index_or (slice_index_or crew.tiles.items t w).clients.items c b) ≡ []
    pub unheard : (t : ℕ) (w : TileWorker R) → t < tiles → taken_of (slice_index_or crew.tiles.items t w).grants ≡ []
    pub unshown : (t : ℕ) (w : TileWorker R) → t < tiles → sent_of (slice_index_or crew.tiles.items t w).parts ≡ []

  -- memory hasn't lacked in a tile, and no part waits
  pub record AreBegun (tiles : ℕ) (crew : Crew (ClientWorker R) (ManagerWorker R) (TileWorker R)) : Type 0 where
    pub ample : (t : ℕ) (w : TileWorker R) → t < tiles → is_tile_short (slice_index_or crew.tiles.items t w).core ≡ false
    pub none_waits : (t : ℕ) (w : TileWorker R) → t < tiles → (slice_index_or crew.tiles.items t w).held ≡ None

  -- The workers of a scene on the tiles of a layout, joined by new lanes that hold so many items, and the receiving ends of the lanes of parts.
  pub record IsNewCluster (scene : Scene) (l : Layout) (depth : ℕ) (crew : Crew (ClientWorker R) (ManagerWorker R) (TileWorker R)) (parts : List (LaneOut TilePart R))
      : Type 0 where
    pub names : LaneNames
    pub cluster : IsCluster scene l names crew
    pub untaken : AreUntaken (tile_count l) names.parts parts
    pub deep : AreSoDeep (length scene.streams) (tile_count l) depth names
    pub unused : AreUnused (length scene.streams) (tile_count l) crew
    pub begun : AreBegun (tile_count l) crew

  -- ---- turns

  -- Turns lead a client's worker to its end, and its ends were sent just what these turns append.
  pub record HasClientTurned (tiles : ℕ) (first last : ClientWorker R) : Type 0 where
    pub turns : List ClientDeed
    pub are : AreWorkerTurns IsClientTurn first turns last
    pub sent : (tile : ℕ) (a : LaneIn Parcel R) → tile < tiles → sent_of (slice_index_or last.tiles.items tile a) ≡ flat_map (λ did. parcels_by did tile) turns
    pub asked : sent_of last.requests ≡ flat_map requests_by turns

  -- so the manager's, whose ends took just what these turns take, and were sent what they append
  pub record HasManagerTurned (clients tiles : ℕ) (first last : ManagerWorker R) : Type 0 where
    pub turns : List ManagerDeed
    pub are : AreWorkerTurns IsManagerTurn first turns last
    pub received : (client : ℕ) (b : LaneOut Request R) → client < clients
        → taken_of (slice_index_or last.requests.items client b) ≡ flat_map (λ did. option_to_list (received_by did client)) turns
    pub granted : (tile : ℕ) (a : LaneIn Grant R) → tile < tiles → sent_of (slice_index_or last.grants.items tile a) ≡ flat_map (λ did. sent_to did tile) turns

  -- and so a tile's
  pub record HasTileTurned (clients : ℕ) (first last : TileWorker R) : Type 0 where
    pub turns : List TileTurn
    pub are : AreWorkerTurns IsTileTurn first turns last
    pub took : (client : ℕ) (b : LaneOut Parcel R) → client < clients
        → taken_of (slice_index_or last.clients.items client b) ≡ flat_map (λ turn. parcels_in turn client) turns
    pub heard : taken_of last.grants ≡ flat_map grants_in turns
    pub shown : sent_of last.parts ≡ flat_map parts_by turns

  -- each worker of a crew turned into what its task has
  pub record HaveTurned (clients tiles : ℕ) (crew : Crew (ClientWorker R) (ManagerWorker R) (TileWorker R))
      (tasks : Crew (Task (ClientWorker R)) (Task (ManagerWorker R)) (Task (TileWorker R))) : Type 0 where
    pub client : (c : ℕ) (w : ClientWorker R) (task : Task (ClientWorker R)) → c < clients
        → HasClientTurned tiles (slice_index_or crew.clients.items c w) (slice_index_or tasks.clients.items c task).worker
    pub manager : HasManagerTurned clients tiles crew.manager tasks.manager.worker
    pub tile : (t : ℕ) (w : TileWorker R) (task : Task (TileWorker R)) → t < tiles
        → HasTileTurned clients (slice_index_or crew.tiles.items t w) (slice_index_or tasks.tiles.items t task).worker

  -- by turns alone, whatever their ends were sent before
  pub record HaveGoneOn (crew : Crew (ClientWorker R) (ManagerWorker R) (TileWorker R))
      (tasks : Crew (Task (ClientWorker R)) (Task (ManagerWorker R)) (Task (TileWorker R))) : Type 0 where
    pub clients : ArePaired (λ c w task. TurnsLead IsClientTurn w task.worker) crew.clients.items tasks.clients.items
    pub manager : TurnsLead IsManagerTurn crew.manager tasks.manager.worker
    pub tiles : ArePaired (λ t w task. TurnsLead IsTileTurn w task.worker) crew.tiles.items tasks.tiles.items

  -- ---- at the end

  -- What was taken of each lane between the workers is a front of what was sent to it.
  pub record AreOrderly (clients tiles : ℕ) (tasks : Crew (Task (ClientWorker R)) (Task (ManagerWorker R)) (Task (TileWorker R))) : Type 0 where
    pub parcels : (c t : ℕ) (w : Task (ClientWorker R)) (v : Task (TileWorker R)) (a : LaneIn Parcel R) (b : LaneOut Parcel R) → c < clients → t < tiles
        → IsFront (taken_of (slice_index_or (slice_index_or tasks.tiles.items t v).worker.clients.items c b))
        (sent_of (slice_index_or (slice_index_or tasks.clients.items c w).worker.tiles.items t a))
    pub requests : (c : ℕ) (w : Task (ClientWorker R)) (b : LaneOut Request R) → c < clients
        → IsFront (taken_of (slice_index_or tasks.manager.worker.requests.items c b)) (sent_of (slice_index_or tasks.clients.items c w).worker.requests)
    pub grants : (t : ℕ) (v : Task (TileWorker R)) (a : LaneIn Grant R) → t < tiles
        → IsFront (taken_of (slice_index_or tasks.tiles.items t v).worker.grants) (sent_of (slice_index_or tasks.manager.worker.grants.items t a))

  -- these are the cores of the tasks' workers, and memory lacked in none of them
  pub record AreCoresOf (tasks : Crew (Task (ClientWorker R)) (Task (ManagerWorker R)) (Task (TileWorker R))) (clients : List ClientCore) (tiles : List TileCore)
      : Type 0 where
    pub clients_are : ArePaired IsAmpleClient tasks.clients.items clients
    pub ample : is_manager_short tasks.manager.worker.core ≡ false
    pub tiles_are : ArePaired IsAmpleTile tasks.tiles.items tiles

  -- what is told of a run is what was collected of the cores of these tasks
  pub record IsLeftBy (decl : Decl) (tasks : Crew (Task (ClientWorker R)) (Task (ManagerWorker R)) (Task (TileWorker R))) (kept : Record) (tallies : List Tally)
      (waiting : Option Waiting) (faults : List (List (ℕ × Fault))) : Type 0 where
    pub clients : List ClientCore
    pub tiles : List TileCore
    pub cores : AreCoresOf tasks clients tiles
    pub collected : AreCollected decl clients tasks.manager.worker.core tiles kept tallies waiting faults

-- A run, as each worker by itself knows it. There are workers of the scene's clients, of the manager and of the tiles, joined by lanes that hold so many items. By turns of its
-- own, one behind the other, each came to its end; of each lane a front of what was sent was taken; and what the run tells is what was collected of their cores.
pub record IsRunOfWorkers (R : Type 0) (scene : Scene) (l : Layout) (depth : ℕ) (kept : Record) (tallies : List Tally) (waiting : Option Waiting)
    (faults : List (List (ℕ × Fault))) : Type 0 where
  pub names : LaneNames
  pub deep : AreSoDeep (length scene.streams) (tile_count l) depth names
  pub crew : Crew (ClientWorker R) (ManagerWorker R) (TileWorker R)
  pub begins : IsCluster scene l names crew
  pub tasks : Crew (Task (ClientWorker R)) (Task (ManagerWorker R)) (Task (TileWorker R))
  pub ends : IsEndedCluster scene l names tasks
  pub turned : HaveTurned (length scene.streams) (tile_count l) crew tasks
  pub orderly : AreOrderly (length scene.streams) (tile_count l) tasks
  pub left : IsLeftBy scene.decl tasks kept tallies waiting faults
