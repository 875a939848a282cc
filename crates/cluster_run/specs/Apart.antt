-- What the workers of a crew had, list by list, and the room for it.
use Rattle.std.specs.Prelude.{◌≡◌, ◌≤◌, ℕ, Bool, false, List, [], Vec, vec_capacity}
use Rattle.std.specs.Global.{Global}
use Rattle.rc_base.specs.Lists.{ArePaired}
use Rattle.rc_base.specs.declared.cluster.TilePart.{TilePart}
use Rattle.rc_base.specs.declared.state.Parcel.{Parcel}
use Rattle.rc_base.specs.declared.sync.Grant.{Grant}
use Rattle.rc_base.specs.declared.sync.Request.{Request}
use Rattle.client_issue.specs.Cores.{short_of}
use Rattle.client_issue.specs.declared.client.ClientCore.{ClientCore}
use Rattle.tile_server.specs.Cores.{is_short}
use Rattle.tile_server.specs.declared.tile_core.TileCore.{TileCore}
use Rattle.tile_queues.specs.declared.ends.LaneIn.{LaneIn}
use Rattle.tile_queues.specs.declared.ends.LaneOut.{LaneOut}
use Rattle.worker_crew.specs.declared.task.Task.{Task}
use Rattle.cluster_run.specs.declared.workers.ClientWorker.{ClientWorker}
use Rattle.cluster_run.specs.declared.workers.TileWorker.{TileWorker}

-- nothing stands in it, and there is room for so many
pub record HasRoom {A : Type 0} (count : ℕ) (list : Vec A Global) : Type 0 where
  pub empty : list.items ≡ []
  pub room : count ≤ vec_capacity list

module _ {R : Type 0} where
  -- the core of a client's worker, in which memory didn't lack
  pub record IsAmpleClient (client : ℕ) (task : Task (ClientWorker R)) (core : ClientCore) : Type 0 where
    pub same : core ≡ task.worker.core
    pub ample : short_of core ≡ false

  -- the core of a client's worker; it isn't short where none is
  pub record IsClientCore (short : Bool) (client : ℕ) (task : Task (ClientWorker R)) (core : ClientCore) : Type 0 where
    pub same : core ≡ task.worker.core
    pub ample : short ≡ false → short_of core ≡ false

  -- By clients: their cores, and whether one of them is short, their lanes to the tiles, and to the manager.
  pub record AreOfClients (short : Bool) (tasks : List (Task (ClientWorker R))) (cores : List ClientCore) (rows : List (Vec (LaneIn Parcel R) Global))
      (requests : List (LaneIn Request R)) : Type 0 where
    pub cores_are : ArePaired (IsClientCore short) tasks cores
    pub rows_are : ArePaired (λ client task row. row ≡ task.worker.tiles) tasks rows
    pub requests_are : ArePaired (λ client task end. end ≡ task.worker.requests) tasks requests

  -- the core of a tile's worker, in which memory didn't lack
  pub record IsAmpleTile (tile : ℕ) (task : Task (TileWorker R)) (core : TileCore) : Type 0 where
    pub same : core ≡ task.worker.core
    pub ample : is_short core ≡ false

  -- the core of a tile's worker; it isn't short where none is
  pub record IsTileCore (short : Bool) (tile : ℕ) (task : Task (TileWorker R)) (core : TileCore) : Type 0 where
    pub same : core ≡ task.worker.core
    pub ample : short ≡ false → is_short core ≡ false

  -- By tiles: their cores, and whether one of them is short, their lanes from the clients, from the manager, and of their parts.
  pub record AreOfTiles (short : Bool) (tasks : List (Task (TileWorker R))) (cores : List TileCore) (columns : List (Vec (LaneOut Parcel R) Global))
      (grants : List (LaneOut Grant R)) (parts : List (LaneIn TilePart R)) : Type 0 where
    pub cores_are : ArePaired (IsTileCore short) tasks cores
    pub columns_are : ArePaired (λ tile task column. column ≡ task.worker.clients) tasks columns
    pub grants_are : ArePaired (λ tile task end. end ≡ task.worker.grants) tasks grants
    pub parts_are : ArePaired (λ tile task end. end ≡ task.worker.parts) tasks parts
