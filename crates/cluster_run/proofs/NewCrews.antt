-- New workers with new lanes are a cluster.
use Rattle.std.proofs.Common.{◌≡◌, ◌<◌, ℕ, List, [], ◌++◌, length, get_or, sym, ap, ◌∙◌, subst, arith}
use Rattle.std.specs.Prelude.{Vec, option_to_list}
use Rattle.std.specs.Global.{Global}
use Rattle.rc_base.specs.Cluster.Tiles.{tile_count}
use Rattle.rc_base.specs.Orders.Sync.{client_count, sync_lists_of}
use Rattle.rc_base.specs.declared.cluster.TilePart.{TilePart}
use Rattle.rc_base.specs.declared.scene.Scene.{Scene}
use Rattle.rc_base.specs.declared.state.Parcel.{Parcel}
use Rattle.rc_base.specs.declared.sync.Grant.{Grant}
use Rattle.rc_base.specs.declared.sync.Request.{Request}
use Rattle.rc_base.specs.declared.window.Layout.{Layout}
use Rattle.rc_base.proofs.Paired.{same_default, some_item}
use Rattle.client_issue.specs.Clauses.{IsClientClause}
use Rattle.tile_server.specs.Clauses.{IsTileClause}
use Rattle.tile_queues.specs.Ends.{sent_of, taken_of, lane_in, lane_out, lane_depth}
use Rattle.tile_queues.specs.declared.ends.LaneIn.{LaneIn}
use Rattle.tile_queues.specs.declared.ends.LaneOut.{LaneOut}
use Rattle.tile_queues.specs.Names.{AreInto, AreOutOf}
use Rattle.tile_queues.specs.Grids.{IsNewGrid}
use Rattle.worker_crew.specs.declared.crew.Crew.{Crew}
use Rattle.scene_lemmas.proofs.Scenes.{scene_client_count}
use Rattle.cluster_run.specs.Clients.{IsClientWorker}
use Rattle.cluster_run.specs.Managers.{IsManagerWorker}
use Rattle.cluster_run.specs.Tiles.{IsTileWorker, parts_of}
use Rattle.cluster_run.specs.Clusters.{LaneNames, AreSoDeep}
use Rattle.cluster_run.specs.NewWorkers.{AreNewClients, AreNewTiles, AreUntaken, IsNewManager}
use Rattle.cluster_run.specs.Workers.{AreUnused, IsNewCluster}
use Rattle.cluster_run.specs.declared.workers.ClientWorker.{ClientWorker}
use Rattle.cluster_run.specs.declared.workers.ManagerWorker.{ManagerWorker}
use Rattle.cluster_run.specs.declared.workers.TileWorker.{TileWorker}

module _ {R : Type 0} (scene : Scene) (l : Layout) (depth : ℕ) (ins : List (Vec (LaneIn Parcel R) Global)) (outs : List (Vec (LaneOut Parcel R) Global))
    (crew : Crew (ClientWorker R) (ManagerWorker R) (TileWorker R)) (requests : Vec (LaneOut Request R) Global) (grants : Vec (LaneIn Grant R) Global)
    (parts : Vec (LaneOut TilePart R) Global)
    (some : 0 < length scene.streams) (some_tiles : 0 < tile_count l) (grid : IsNewGrid depth (length scene.streams) (tile_count l) ins outs)
    (clients : AreNewClients scene l depth ins crew.clients.items requests.items) (tiles : AreNewTiles scene l depth outs crew.tiles.items grants.items parts.items)
    (manager : IsNewManager scene (tile_count l) requests grants crew.manager) where
  -- ---- something to name where there is no end

  abbrev a_row : Vec (LaneIn Parcel R) Global
  a_row = let n = grid.rows in some_item ins 0 (omega (arith, n, some))

  abbrev a_sender : LaneIn Parcel R
  a_sender = let n = grid.row 0 a_row some in some_item (get_or ins 0 a_row).items 0 (omega (arith, n, some_tiles))

  abbrev a_column : Vec (LaneOut Parcel R) Global
  a_column = let n = grid.columns in some_item outs 0 (omega (arith, n, some_tiles))

  abbrev a_receiver : LaneOut Parcel R
  a_receiver = let n = grid.column 0 a_column some_tiles in some_item (get_or outs 0 a_column).items 0 (omega (arith, n, some))

  client_total : length crew.clients.items ≡ length scene.streams
  client_total = clients.workers_are.count ∙ grid.rows

  tile_total : length crew.tiles.items ≡ tile_count l
  tile_total = tiles.workers_are.count ∙ grid.columns

  abbrev a_client : ClientWorker R
  a_client = some_item crew.clients.items 0 (omega (arith, client_total, some))

  abbrev a_tile : TileWorker R
  a_tile = some_item crew.tiles.items 0 (omega (arith, tile_total, some_tiles))

  -- ---- the names of the lanes

  abbrev names_of : LaneNames
  names_of = record {
    parcels = λ c t. lane_in (get_or (get_or ins c a_row).items t a_sender);
    requests = λ c. lane_in (get_or crew.clients.items c a_client).requests;
    grants = λ t. lane_out (get_or crew.tiles.items t a_tile).grants;
    parts = λ t. lane_in (get_or crew.tiles.items t a_tile).parts;
  }

  -- ---- each worker

  new_client_is : (c : ℕ) (w : ClientWorker R) → c < length scene.streams
      → IsClientWorker scene l c (names_of.parcels c) (names_of.requests c) (get_or crew.clients.items c w)
  new_client_is c w low =
      let in_rows : c < length ins = (let n = grid.rows in omega (arith, n, low)) in
      let in_crew : c < length crew.clients.items = omega (arith, client_total, low) in
      let here = get_or crew.clients.items c w in
      let row = get_or ins c a_row in
      let new = clients.workers_are.at c a_row w in_rows in
      let fresh = clients.requests_are.at c w (some_item requests.items c (let n = clients.requests_are.count in omega (arith, n, in_crew))) in_crew in
      let unsent : (d : LaneIn Parcel R) (t : ℕ) → t < tile_count l → sent_of (get_or here.tiles.items t d) ≡ [] =
      λ d t below. subst (λ (v : Vec (LaneIn Parcel R) Global). sent_of (get_or v.items t d) ≡ []) (sym new.tiles_are)
      (grid.fresh c t a_row a_column d a_receiver low below).unsent in
      record {
        number_is = new.number_is;
        tiles_are = subst (λ (v : Vec (LaneIn Parcel R) Global). AreInto (tile_count l) (names_of.parcels c) v.items) (sym new.tiles_are) record {
          size = grid.row c a_row low;
          named = λ t e below. ap (λ (a : LaneIn Parcel R). lane_in a)
              (same_default row.items t e a_sender (let n = grid.row c a_row low in omega (arith, n, below)));
        };
        requests_are = ap (λ (v : ClientWorker R). lane_in v.requests) (same_default crew.clients.items c w a_client in_crew);
        clause = λ d. subst (λ asked. IsClientClause scene l c here.core (λ tile. sent_of (get_or here.tiles.items tile d)) asked here.ended) (sym fresh.unsent)
            (new.clause (λ tile. sent_of (get_or here.tiles.items tile d)) (unsent d));
      }

  new_tile_is : (t : ℕ) (w : TileWorker R) → t < tile_count l
      → IsTileWorker scene l t (λ c. names_of.parcels c t) (names_of.grants t) (names_of.parts t) (get_or crew.tiles.items t w)
  new_tile_is t w low =
      let in_columns : t < length outs = (let n = grid.columns in omega (arith, n, low)) in
      let in_crew : t < length crew.tiles.items = omega (arith, tile_total, low) in
      let here = get_or crew.tiles.items t w in
      let new = tiles.workers_are.at t a_column w in_columns in
      let fresh = tiles.grants_are.at t w (some_item grants.items t (let n = tiles.grants_are.count in omega (arith, n, in_crew))) in_crew in
      let shown = tiles.parts_are.at t w (some_item parts.items t (let n = tiles.parts_are.count in omega (arith, n, in_crew))) in_crew in
      let unshown : parts_of here ≡ [] = ap (λ o. sent_of here.parts ++ option_to_list o) new.none_waits ∙ ap (λ xs. xs ++ []) shown.unsent in
      let untaken : (d : LaneOut Parcel R) (c : ℕ) → c < length scene.streams → taken_of (get_or here.clients.items c d) ≡ [] =
      λ d c below. subst (λ (v : Vec (LaneOut Parcel R) Global). taken_of (get_or v.items c d) ≡ []) (sym new.clients_are)
      (grid.fresh c t a_row a_column a_sender d below low).untaken in
      record {
        number_is = new.number_is;
        clients_are = subst (λ (v : Vec (LaneOut Parcel R) Global). AreOutOf (length scene.streams) (λ c. names_of.parcels c t) v.items) (sym new.clients_are)
            record {
              size = grid.column t a_column low;
              named = λ c e below. (grid.fresh c t a_row a_column a_sender e below low).lane;
            };
        grants_are = ap (λ (v : TileWorker R). lane_out v.grants) (same_default crew.tiles.items t w a_tile in_crew);
        parts_are = ap (λ (v : TileWorker R). lane_in v.parts) (same_default crew.tiles.items t w a_tile in_crew);
        clause = λ d.
            subst (λ heard. IsTileClause scene l t here.core (λ client. taken_of (get_or here.clients.items client d)) heard (parts_of here) here.ended)
            (sym fresh.untaken)
            (subst (λ shown. IsTileClause scene l t here.core (λ client. taken_of (get_or here.clients.items client d)) [] shown here.ended) (sym unshown)
            (new.clause (λ client. taken_of (get_or here.clients.items client d)) (untaken d)));
        none_waits = λ _. new.none_waits;
      }

  request_total : length requests.items ≡ client_count (sync_lists_of scene)
  request_total = clients.requests_are.count ∙ client_total ∙ sym (scene_client_count scene)

  grant_total : length grants.items ≡ tile_count l
  grant_total = tiles.grants_are.count ∙ tile_total

  in_clients : (c : ℕ) → c < client_count (sync_lists_of scene) → c < length crew.clients.items
  in_clients c low = let n = scene_client_count scene in omega (arith, n, client_total, low)

  new_manager_is : IsManagerWorker (sync_lists_of scene) (tile_count l) names_of.requests names_of.grants crew.manager
  new_manager_is = record {
    requests_are = subst (λ (v : Vec (LaneOut Request R) Global). AreOutOf (client_count (sync_lists_of scene)) names_of.requests v.items) (sym manager.requests_are)
        record {
          size = request_total;
          named = λ c b low. (clients.requests_are.at c a_client b (in_clients c low)).lane;
        };
    grants_are = subst (λ (v : Vec (LaneIn Grant R) Global). AreInto (tile_count l) names_of.grants v.items) (sym manager.grants_are) record {
      size = grant_total;
      named = λ t a low. sym (tiles.grants_are.at t a_tile a (omega (arith, tile_total, low))).lane;
    };
    clause = λ d e.
        manager.clause (λ client. taken_of (get_or crew.manager.requests.items client d)) (λ tile. sent_of (get_or crew.manager.grants.items tile e))
        (λ c low. subst (λ (v : Vec (LaneOut Request R) Global). taken_of (get_or v.items c d) ≡ []) (sym manager.requests_are)
        (clients.requests_are.at c a_client d (in_clients c low)).untaken)
        (λ t low. subst (λ (v : Vec (LaneIn Grant R) Global). sent_of (get_or v.items t e) ≡ []) (sym manager.grants_are)
        (tiles.grants_are.at t a_tile e (omega (arith, tile_total, low))).unsent);
  }

  untaken_parts : AreUntaken (tile_count l) names_of.parts parts.items
  untaken_parts = record {
    named = record {
      size = tiles.parts_are.count ∙ tile_total;
      named = λ t b low. (tiles.parts_are.at t a_tile b (omega (arith, tile_total, low))).lane;
    };
    nothing = λ t b low. (tiles.parts_are.at t a_tile b (omega (arith, tile_total, low))).untaken;
  }

  so_deep : AreSoDeep (length scene.streams) (tile_count l) depth names_of
  so_deep = record {
    parcels = λ c t low below. (grid.fresh c t a_row a_column a_sender a_receiver low below).deep;
    requests = λ c low.
        let in_crew : c < length crew.clients.items = omega (arith, client_total, low) in
        (clients.requests_are.at c a_client (some_item requests.items c (let n = clients.requests_are.count in omega (arith, n, in_crew))) in_crew).deep;
    grants = λ t low.
        let in_crew : t < length crew.tiles.items = omega (arith, tile_total, low) in
        let fresh = tiles.grants_are.at t a_tile (some_item grants.items t (let n = tiles.grants_are.count in omega (arith, n, in_crew))) in_crew in
        ap (λ lane. lane_depth lane) fresh.lane ∙ fresh.deep;
    parts = λ t low.
        let in_crew : t < length crew.tiles.items = omega (arith, tile_total, low) in
        (tiles.parts_are.at t a_tile (some_item parts.items t (let n = tiles.parts_are.count in omega (arith, n, in_crew))) in_crew).deep;
  }

  unused : AreUnused (length scene.streams) (tile_count l) crew
  unused = record {
    unsent = λ c t w d low below.
        let in_rows : c < length ins = (let n = grid.rows in omega (arith, n, low)) in
        subst (λ (v : Vec (LaneIn Parcel R) Global). sent_of (get_or v.items t d) ≡ []) (sym (clients.workers_are.at c a_row w in_rows).tiles_are)
        (grid.fresh c t a_row a_column d a_receiver low below).unsent;
    unasked = λ c w low.
        let in_crew : c < length crew.clients.items = omega (arith, client_total, low) in
        (clients.requests_are.at c w (some_item requests.items c (let n = clients.requests_are.count in omega (arith, n, in_crew))) in_crew).unsent;
    unreceived = λ c b low.
        subst (λ (v : Vec (LaneOut Request R) Global). taken_of (get_or v.items c b) ≡ []) (sym manager.requests_are)
        (clients.requests_are.at c a_client b (omega (arith, client_total, low))).untaken;
    ungranted = λ t a low.
        subst (λ (v : Vec (LaneIn Grant R) Global). sent_of (get_or v.items t a) ≡ []) (sym manager.grants_are)
        (tiles.grants_are.at t a_tile a (omega (arith, tile_total, low))).unsent;
    untaken = λ t c w b low below.
        let in_columns : t < length outs = (let n = grid.columns in omega (arith, n, low)) in
        subst (λ (v : Vec (LaneOut Parcel R) Global). taken_of (get_or v.items c b) ≡ []) (sym (tiles.workers_are.at t a_column w in_columns).clients_are)
        (grid.fresh c t a_row a_column a_sender b below low).untaken;
    unheard = λ t w low.
        let in_crew : t < length crew.tiles.items = omega (arith, tile_total, low) in
        (tiles.grants_are.at t w (some_item grants.items t (let n = tiles.grants_are.count in omega (arith, n, in_crew))) in_crew).untaken;
    unshown = λ t w low.
        let in_crew : t < length crew.tiles.items = omega (arith, tile_total, low) in
        (tiles.parts_are.at t w (some_item parts.items t (let n = tiles.parts_are.count in omega (arith, n, in_crew))) in_crew).unsent;
  }

  pub new_crew_is : IsNewCluster scene l depth crew parts.items
  new_crew_is = record {
    names = names_of;
    cluster = record { clients = client_total; tiles = tile_total; client = new_client_is; manager = new_manager_is; tile = new_tile_is };
    untaken = untaken_parts;
    deep = so_deep;
    unused = unused;
    begun = record {
      ample = λ t w low. (tiles.workers_are.at t a_column w (let n = grid.columns in omega (arith, n, low))).ample;
      none_waits = λ t w low. (tiles.workers_are.at t a_column w (let n = grid.columns in omega (arith, n, low))).none_waits;
    };
  }
