-- Workers that have gone on by turns from ends by which nothing went.
use Rattle.std.proofs.Common.{◌≡◌, ◌<◌, ℕ, true, [], length, ◌∙◌, arith}
use Rattle.std.specs.Prelude.{slice_index_or, option_to_list}
use Rattle.rc_base.specs.Cluster.Tiles.{tile_count}
use Rattle.rc_base.specs.declared.scene.Scene.{Scene}
use Rattle.rc_base.specs.declared.state.Parcel.{Parcel}
use Rattle.rc_base.specs.declared.sync.Grant.{Grant}
use Rattle.rc_base.specs.declared.sync.Request.{Request}
use Rattle.rc_base.specs.declared.window.Layout.{Layout}
use Rattle.scene_lemmas.proofs.Scenes.{scene_client_count}
use Rattle.sync_manager.specs.Progress.{sent_to, taken_of as received_by}
use Rattle.tile_queues.specs.Ends.{sent_of, taken_of}
use Rattle.tile_queues.specs.declared.ends.LaneIn.{LaneIn}
use Rattle.tile_queues.specs.declared.ends.LaneOut.{LaneOut}
use Rattle.worker_crew.specs.Crews.{HaveEnded}
use Rattle.worker_crew.specs.declared.crew.Crew.{Crew}
use Rattle.worker_crew.specs.declared.task.Task.{Task}
use Rattle.cluster_run.specs.Clients.{ClientLeads}
use Rattle.cluster_run.specs.Clusters.{LaneNames, HasRun, IsCluster}
use Rattle.cluster_run.specs.Managers.{ManagerLeads}
use Rattle.cluster_run.specs.Tiles.{TileLeads}
use Rattle.cluster_run.specs.Steps.{parcels_by, requests_by, parcels_in, grants_in, parts_by, IsClientTurn, IsManagerTurn, IsTileTurn}
use Rattle.cluster_run.specs.Turns.{TurnsGoOn, TurnsLead}
use Rattle.cluster_run.specs.Workers.{AreUnused, HasClientTurned, HasManagerTurned, HasTileTurned, HaveGoneOn, HaveTurned}
use Rattle.cluster_run.specs.declared.workers.ClientWorker.{ClientWorker}
use Rattle.cluster_run.specs.declared.workers.ManagerWorker.{ManagerWorker}
use Rattle.cluster_run.specs.declared.workers.TileWorker.{TileWorker}
use Rattle.cluster_run.proofs.Grown.{client_asks, client_sends, manager_receives, tile_hears, tile_shows, tile_takes}
use Rattle.cluster_run.proofs.Turns.{end_has, ends_have, no_turn}

module _ {R : Type 0} (clients tiles : ℕ) where
  client_turned : (first last : ClientWorker R) → length first.tiles.items ≡ tiles
      → ((t : ℕ) (a : LaneIn Parcel R) → t < tiles → sent_of (slice_index_or first.tiles.items t a) ≡ []) → sent_of first.requests ≡ []
      → TurnsLead IsClientTurn first last → HasClientTurned tiles first last
  client_turned first last count unsent unasked led = record {
    turns = led.turns;
    are = led.are;
    sent = ends_have IsClientTurn (λ w. w.tiles.items) sent_of parcels_by client_sends tiles first last led.turns count unsent led.are;
    asked = end_has IsClientTurn (λ w. sent_of w.requests) requests_by client_asks first last led.turns unasked led.are;
  }

  manager_turned : (first last : ManagerWorker R) → length first.requests.items ≡ clients → length first.grants.items ≡ tiles
      → ((c : ℕ) (b : LaneOut Request R) → c < clients → taken_of (slice_index_or first.requests.items c b) ≡ [])
      → ((t : ℕ) (a : LaneIn Grant R) → t < tiles → sent_of (slice_index_or first.grants.items t a) ≡ [])
      → TurnsLead IsManagerTurn first last → HasManagerTurned clients tiles first last
  manager_turned first last count total unreceived ungranted led = record {
    turns = led.turns;
    are = led.are;
    received = ends_have IsManagerTurn (λ w. w.requests.items) taken_of (λ did client. option_to_list (received_by did client)) manager_receives
        clients first last led.turns count unreceived led.are;
    granted = ends_have IsManagerTurn (λ w. w.grants.items) sent_of sent_to (λ before after did is. is.grants) tiles first last led.turns total ungranted led.are;
  }

  tile_turned : (first last : TileWorker R) → length first.clients.items ≡ clients
      → ((c : ℕ) (b : LaneOut Parcel R) → c < clients → taken_of (slice_index_or first.clients.items c b) ≡ []) → taken_of first.grants ≡ []
      → sent_of first.parts ≡ [] → TurnsLead IsTileTurn first last → HasTileTurned clients first last
  tile_turned first last count untaken unheard unshown led = record {
    turns = led.turns;
    are = led.are;
    took = ends_have IsTileTurn (λ w. w.clients.items) taken_of parcels_in tile_takes clients first last led.turns count untaken led.are;
    heard = end_has IsTileTurn (λ w. taken_of w.grants) grants_in tile_hears first last led.turns unheard led.are;
    shown = end_has IsTileTurn (λ w. sent_of w.parts) parts_by tile_shows first last led.turns unshown led.are;
  }

-- ---- a crew that was run

module _ {R : Type 0} (crew : Crew (ClientWorker R) (ManagerWorker R) (TileWorker R)) (tasks : Crew (Task (ClientWorker R)) (Task (ManagerWorker R)) (Task (TileWorker R)))
    (h : HaveEnded (λ a b. ClientLeads a b × TurnsGoOn IsClientTurn a b) (λ w. w.ended ≡ true) (λ a b. ManagerLeads a b × TurnsGoOn IsManagerTurn a b) (λ w. w.ended ≡ true)
    (λ a b. TileLeads a b × TurnsGoOn IsTileTurn a b) (λ w. w.ended ≡ true) crew tasks) where
  pub has_run : HasRun crew tasks
  has_run = record {
    clients = record { count = h.clients.count; at = λ i w task low. let one = h.clients.at i w task low in record { led = one.led.0; over_is = one.over_is } };
    manager = record { led = h.manager.led.0; over_is = h.manager.over_is };
    tiles = record { count = h.tiles.count; at = λ i w task low. let one = h.tiles.at i w task low in record { led = one.led.0; over_is = one.over_is } };
  }

  pub have_gone_on : HaveGoneOn crew tasks
  have_gone_on = record {
    clients = record { count = h.clients.count; at = λ i w task low. (h.clients.at i w task low).led.1 _ (no_turn IsClientTurn _) };
    manager = h.manager.led.1 _ (no_turn IsManagerTurn _);
    tiles = record { count = h.tiles.count; at = λ i w task low. (h.tiles.at i w task low).led.1 _ (no_turn IsTileTurn _) };
  }

module _ {R : Type 0} (scene : Scene) (l : Layout) (names : LaneNames) (crew : Crew (ClientWorker R) (ManagerWorker R) (TileWorker R))
    (tasks : Crew (Task (ClientWorker R)) (Task (ManagerWorker R)) (Task (TileWorker R))) where
  -- each worker of a new cluster
  pub have_turned : IsCluster scene l names crew → AreUnused (length scene.streams) (tile_count l) crew → HaveGoneOn crew tasks
      → HaveTurned (length scene.streams) (tile_count l) crew tasks
  have_turned is unused on = record {
    client = λ c w task low.
        client_turned (length scene.streams) (tile_count l) _ _ (is.client c w low).tiles_are.size (λ t a below. unused.unsent c t w a low below) (unused.unasked c w low)
        (on.clients.at c w task (let n = is.clients in omega (arith, n, low)));
    manager = manager_turned (length scene.streams) (tile_count l) _ _ (is.manager.requests_are.size ∙ scene_client_count scene) is.manager.grants_are.size
        unused.unreceived unused.ungranted on.manager;
    tile = λ t w task low.
        tile_turned (length scene.streams) (tile_count l) _ _ (is.tile t w low).clients_are.size (λ c b below. unused.untaken t c w b low below) (unused.unheard t w low)
        (unused.unshown t w low) (on.tiles.at t w task (let n = is.tiles in omega (arith, n, low)));
  }
