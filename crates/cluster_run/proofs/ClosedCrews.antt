-- A crew that has ended, taken apart and with its lanes closed, is a closed cluster.
use Rattle.std.proofs.Common.{◌≡◌, ◌<◌, ℕ, Bool, true, false, List, [], ◌∷◌, ◌++◌, length, sym, ap, ◌∙◌, subst, arith, append-nil, zero, suc, refl}
use Rattle.std.specs.Prelude.{slice_index_or, option_to_list, Option, Vec}
use Rattle.std.specs.Global.{Global}
use Rattle.rc_base.proofs.Paired.{some_item}
use Rattle.rc_base.specs.Lists.{ArePaired, IsFront}
use Rattle.rc_base.specs.Cluster.Tiles.{tile_count}
use Rattle.rc_base.specs.Orders.Sync.{sync_lists_of}
use Rattle.rc_base.specs.declared.cluster.TilePart.{TilePart}
use Rattle.rc_base.specs.declared.scene.Scene.{Scene}
use Rattle.rc_base.specs.declared.state.Parcel.{Parcel}
use Rattle.rc_base.specs.declared.sync.Grant.{Grant}
use Rattle.rc_base.specs.declared.sync.Request.{Request}
use Rattle.rc_base.specs.declared.window.Layout.{Layout}
use Rattle.client_issue.specs.Clauses.{IsClientClause}
use Rattle.client_issue.specs.declared.client.ClientCore.{ClientCore}
use Rattle.sync_manager.specs.Clauses.{IsManagerClause}
use Rattle.sync_manager.specs.Cores.{is_short as is_manager_short}
use Rattle.tile_server.specs.Clauses.{IsTileClause}
use Rattle.tile_server.specs.declared.tile_core.TileCore.{TileCore}
use Rattle.tile_queues.specs.Ends.{sent_of, taken_of, lane_in, lane_out}
use Rattle.tile_queues.specs.declared.ends.LaneIn.{LaneIn}
use Rattle.tile_queues.specs.declared.ends.LaneOut.{LaneOut}
use Rattle.tile_queues.specs.Grids.{AreGrid}
use Rattle.tile_queues.specs.Laws.{NamedEndsArePaired, NamedRowsAndColumnsAreAGrid}
use Rattle.tile_queues.specs.Names.{AreInto, AreOutOf}
use Rattle.run_record.specs.Closed.{AreClosed, IsClientEnded, IsTileEnded}
use Rattle.worker_crew.specs.declared.crew.Crew.{Crew}
use Rattle.worker_crew.specs.declared.task.Task.{Task}
use Rattle.scene_lemmas.proofs.Scenes.{scene_client_count}
use Rattle.cluster_run.specs.Apart.{AreOfClients, AreOfTiles}
use Rattle.cluster_run.specs.Clusters.{LaneNames, IsEndedCluster}
use Rattle.cluster_run.specs.Serving.{shown_in_lanes}
use Rattle.cluster_run.specs.Tiles.{parts_of}
use Rattle.cluster_run.specs.Workers.{AreOrderly}
use Rattle.cluster_run.specs.declared.cores.ClientParts.{ClientParts}
use Rattle.cluster_run.specs.declared.cores.TileParts.{TileParts}
use Rattle.cluster_run.specs.declared.workers.ClientWorker.{ClientWorker}
use Rattle.cluster_run.specs.declared.workers.ManagerWorker.{ManagerWorker}
use Rattle.cluster_run.specs.declared.workers.TileWorker.{TileWorker}

-- the lanes from a client, tiles rising, and those to a tile, clients rising
abbrev Row : Type 0 → Type 0
Row R = Vec (LaneIn Parcel R) Global

abbrev Column : Type 0 → Type 0
Column R = Vec (LaneOut Parcel R) Global

-- of each lane of a grid a front of what was sent was taken
abbrev pub AreFronts : {R : Type 0} → List (Row R) → List (Column R) → Type 0
AreFronts {R} rows columns = (c t : ℕ) (d : Row R) (e : Column R) (a : LaneIn Parcel R) (b : LaneOut Parcel R) → c < length rows → t < length columns
    → IsFront (taken_of (slice_index_or (slice_index_or columns t e).items c b)) (sent_of (slice_index_or (slice_index_or rows c d).items t a))

-- the lane of a tile's parts
pub shown_at : {R : Type 0} (ends : List (LaneIn TilePart R)) (t : ℕ) (d : LaneIn TilePart R) → t < length ends → shown_in_lanes ends t ≡ sent_of (slice_index_or ends t d)
shown_at [] t d low = absurd (omega (arith, low))
shown_at (a ∷ ends) zero d low = refl
shown_at (a ∷ ends) (suc t) d low = shown_at ends t d (omega (arith, low))

-- ---- one worker

module _ {R : Type 0} (scene : Scene) (l : Layout) where
  -- what holds of a client's worker holds of what it had
  client_had : (client : ℕ) (d : LaneIn Parcel R) (core core' : ClientCore) (row row' : Row R) (end end' : LaneIn Request R) (ended : Bool)
      → core ≡ core' → row ≡ row' → end ≡ end' → ended ≡ true
      → IsClientClause scene l client core' (λ tile. sent_of (slice_index_or row'.items tile d)) (sent_of end') ended
      → IsClientClause scene l client core (λ tile. sent_of (slice_index_or row.items tile d)) (sent_of end) true
  client_had client d core core' row row' end end' ended a b e f h =
      subst (λ (x : ClientCore × Row R × LaneIn Request R × Bool).
      IsClientClause scene l client x.0 (λ tile. sent_of (slice_index_or x.1.items tile d)) (sent_of x.2) x.3)
      (λ i. (sym a i, sym b i, sym e i, f i)) h

  -- and of a tile's alike
  tile_had : (tile : ℕ) (d : LaneOut Parcel R) (core core' : TileCore) (column column' : Column R) (end end' : LaneOut Grant R)
      (shown shown' : List TilePart) (ended : Bool) → core ≡ core' → column ≡ column' → end ≡ end' → shown ≡ shown' → ended ≡ true
      → IsTileClause scene l tile core' (λ client. taken_of (slice_index_or column'.items client d)) (taken_of end') shown' ended
      → IsTileClause scene l tile core (λ client. taken_of (slice_index_or column.items client d)) (taken_of end) shown true
  tile_had tile d core core' column column' end end' shown shown' ended a b e p f h =
      subst (λ (x : TileCore × Column R × LaneOut Grant R × List TilePart × Bool).
      IsTileClause scene l tile x.0 (λ client. taken_of (slice_index_or x.1.items client d)) (taken_of x.2) x.3 x.4)
      (λ i. (sym a i, sym b i, sym e i, sym p i, f i)) h

-- ---- the crew

module _ {R : Type 0} (scene : Scene) (l : Layout) (names : LaneNames) (tasks : Crew (Task (ClientWorker R)) (Task (ManagerWorker R)) (Task (TileWorker R)))
    (ended : IsEndedCluster scene l names tasks)
    (of_clients : ClientParts R) (clients : AreOfClients of_clients.short tasks.clients.items of_clients.cores.items of_clients.rows.items of_clients.requests.items)
    (of_tiles : TileParts R) (tiles : AreOfTiles of_tiles.short tasks.tiles.items of_tiles.cores.items of_tiles.columns.items of_tiles.grants.items of_tiles.parts.items) where
  abbrev rows : List (Row R)
  rows = of_clients.rows.items

  abbrev columns : List (Column R)
  columns = of_tiles.columns.items

  abbrev asking : List (LaneIn Request R)
  asking = of_clients.requests.items

  abbrev hearing : List (LaneOut Grant R)
  hearing = of_tiles.grants.items

  -- the manager's ends
  abbrev requests : List (LaneOut Request R)
  requests = tasks.manager.worker.requests.items

  abbrev grants : List (LaneIn Grant R)
  grants = tasks.manager.worker.grants.items

  client_low : (c : ℕ) → c < length scene.streams → c < length tasks.clients.items
  client_low c low = let n = ended.clients in omega (arith, n, low)

  tile_low : (t : ℕ) → t < tile_count l → t < length tasks.tiles.items
  tile_low t low = let n = ended.tiles in omega (arith, n, low)

  row_total : length rows ≡ length scene.streams
  row_total = clients.rows_are.count ∙ ended.clients

  column_total : length columns ≡ tile_count l
  column_total = tiles.columns_are.count ∙ ended.tiles

  -- ---- the lanes have their two ends in their places

  row_into : (c : ℕ) (d : Row R) → c < length scene.streams → AreInto (tile_count l) (names.parcels c) (slice_index_or rows c d).items
  row_into c d low =
      let here = client_low c low in
      let w = some_item tasks.clients.items c here in
      subst (λ (row : Row R). AreInto (tile_count l) (names.parcels c) row.items) (sym (clients.rows_are.at c w d here)) (ended.client c w low).tiles_are

  column_out : (t : ℕ) (e : Column R) → t < tile_count l
      → AreOutOf (length scene.streams) (λ c. names.parcels c t) (slice_index_or columns t e).items
  column_out t e low =
      let here = tile_low t low in
      let w = some_item tasks.tiles.items t here in
      subst (λ (column : Column R). AreOutOf (length scene.streams) (λ c. names.parcels c t) column.items) (sym (tiles.columns_are.at t w e here))
      (ended.tile t w low).clients_are

  pub grid : NamedRowsAndColumnsAreAGrid Parcel R → AreGrid rows columns
  grid law = law (length scene.streams) (tile_count l) names.parcels rows columns row_total column_total row_into column_out

  asking_into : AreInto (length scene.streams) names.requests asking
  asking_into = record {
    size = clients.requests_are.count ∙ ended.clients;
    named = λ c d low.
        let here = client_low c low in
        let w = some_item tasks.clients.items c here in
        ap (λ (end : LaneIn Request R). lane_in end) (clients.requests_are.at c w d here) ∙ (ended.client c w low).requests_are;
  }

  hearing_out : AreOutOf (tile_count l) names.grants hearing
  hearing_out = record {
    size = tiles.grants_are.count ∙ ended.tiles;
    named = λ t d low.
        let here = tile_low t low in
        let w = some_item tasks.tiles.items t here in
        ap (λ (end : LaneOut Grant R). lane_out end) (tiles.grants_are.at t w d here) ∙ (ended.tile t w low).grants_are;
  }

  pub showing_into : AreInto (tile_count l) names.parts of_tiles.parts.items
  showing_into = record {
    size = tiles.parts_are.count ∙ ended.tiles;
    named = λ t d low.
        let here = tile_low t low in
        let w = some_item tasks.tiles.items t here in
        ap (λ (end : LaneIn TilePart R). lane_in end) (tiles.parts_are.at t w d here) ∙ (ended.tile t w low).parts_are;
  }

  pub asking_paired : NamedEndsArePaired Request R → ArePaired (λ i a b. lane_out b ≡ lane_in a) asking requests
  asking_paired law = law (length scene.streams) names.requests asking requests asking_into
      (subst (λ n. AreOutOf n names.requests requests) (scene_client_count scene) ended.manager.requests_are)

  pub hearing_paired : NamedEndsArePaired Grant R → ArePaired (λ i a b. lane_out b ≡ lane_in a) grants hearing
  hearing_paired law = law (tile_count l) names.grants grants hearing ended.manager.grants_are hearing_out

  -- ---- the cores meet their clauses over the lists of their ends, of which each list that was taken is a front of the one that was sent

  module _ (some_clients : 0 < length scene.streams) (some_tiles : 0 < tile_count l)
      (parcel_fronts : AreFronts rows columns)
      (request_fronts : ArePaired (λ i a b. IsFront (taken_of b) (sent_of a)) asking requests)
      (grant_fronts : ArePaired (λ i a b. IsFront (taken_of b) (sent_of a)) grants hearing) where
    -- ends that stand where there is none
    a_row : Row R
    a_row = some_item rows 0 (let n = row_total in omega (arith, n, some_clients))

    a_column : Column R
    a_column = some_item columns 0 (let n = column_total in omega (arith, n, some_tiles))

    sender : LaneIn Parcel R
    sender = some_item (slice_index_or rows 0 a_row).items 0 (let n = (row_into 0 a_row some_clients).size in omega (arith, n, some_tiles))

    receiver : LaneOut Parcel R
    receiver = some_item (slice_index_or columns 0 a_column).items 0 (let n = (column_out 0 a_column some_tiles).size in omega (arith, n, some_clients))

    asker : LaneIn Request R
    asker = some_item asking 0 (let n = asking_into.size in omega (arith, n, some_clients))

    answerer : LaneOut Request R
    answerer = some_item requests 0 (let n = request_fronts.count in let m = asking_into.size in omega (arith, n, m, some_clients))

    granter : LaneIn Grant R
    granter = some_item grants 0 (let n = ended.manager.grants_are.size in omega (arith, n, some_tiles))

    hearer : LaneOut Grant R
    hearer = some_item hearing 0 (let n = hearing_out.size in omega (arith, n, some_tiles))

    -- what went into the lanes, and what came out of them
    abbrev sent : ℕ → ℕ → List Parcel
    sent c t = sent_of (slice_index_or (slice_index_or rows c a_row).items t sender)

    abbrev took : ℕ → ℕ → List Parcel
    took t c = taken_of (slice_index_or (slice_index_or columns t a_column).items c receiver)

    abbrev asked : ℕ → List Request
    asked c = sent_of (slice_index_or asking c asker)

    abbrev received : ℕ → List Request
    received c = taken_of (slice_index_or requests c answerer)

    abbrev granted : ℕ → List Grant
    granted t = sent_of (slice_index_or grants t granter)

    abbrev heard : ℕ → List Grant
    heard t = taken_of (slice_index_or hearing t hearer)

    pub orderly : AreOrderly (length scene.streams) (tile_count l) tasks
    orderly = record {
      parcels = λ c t w v a b low t_low.
          subst (λ (x : Column R × Row R). IsFront (taken_of (slice_index_or x.0.items c b)) (sent_of (slice_index_or x.1.items t a)))
          (λ i. (tiles.columns_are.at t v a_column (tile_low t t_low) i, clients.rows_are.at c w a_row (client_low c low) i))
          (parcel_fronts c t a_row a_column a b (let n = row_total in omega (arith, n, low)) (let n = column_total in omega (arith, n, t_low)));
      requests = λ c w b low.
          subst (λ (a : LaneIn Request R). IsFront (taken_of (slice_index_or requests c b)) (sent_of a)) (clients.requests_are.at c w asker (client_low c low))
          (request_fronts.at c asker b (let n = asking_into.size in omega (arith, n, low)));
      grants = λ t v a low.
          subst (λ (b : LaneOut Grant R). IsFront (taken_of b) (sent_of (slice_index_or grants t a))) (tiles.grants_are.at t v hearer (tile_low t low))
          (grant_fronts.at t a hearer (let n = ended.manager.grants_are.size in omega (arith, n, low)));
    }

    -- what was sent by the lane of a tile's parts is all that it has shown
    shown_is : (t : ℕ) (w : Task (TileWorker R)) → t < tile_count l → shown_in_lanes of_tiles.parts.items t ≡ parts_of (slice_index_or tasks.tiles.items t w).worker
    shown_is t w low =
        let here = tile_low t low in
        let e = some_item of_tiles.parts.items t (let n = tiles.parts_are.count in omega (arith, n, here)) in
        let task = slice_index_or tasks.tiles.items t w in
        shown_at of_tiles.parts.items t e (let n = tiles.parts_are.count in omega (arith, n, here))
        ∙ ap (λ (a : LaneIn TilePart R). sent_of a) (tiles.parts_are.at t w e here)
        ∙ sym (append-nil (sent_of task.worker.parts))
        ∙ ap (λ (o : Option TilePart). sent_of task.worker.parts ++ option_to_list o) (sym ((ended.tile t w low).none_waits (ended.tiles_end t w low)))

    module _ (unlacking_clients : of_clients.short ≡ false) (unlacking_tiles : of_tiles.short ≡ false) (ample : is_manager_short tasks.manager.worker.core ≡ false) where
      client_ended : (c : ℕ) (d : ClientCore) → c < length scene.streams → IsClientEnded scene l c (slice_index_or of_clients.cores.items c d) (sent c) (asked c)
      client_ended c d low =
          let here = client_low c low in
          let w = some_item tasks.clients.items c here in
          let core = clients.cores_are.at c w d here in
          record {
            clause = client_had scene l c sender _ _ _ _ _ _ _ core.same (clients.rows_are.at c w a_row here) (clients.requests_are.at c w asker here)
                (ended.clients_end c w low) ((ended.client c w low).clause sender);
            ample = core.ample unlacking_clients;
          }

      tile_ended : (t : ℕ) (d : TileCore) → t < tile_count l
          → IsTileEnded scene l t (slice_index_or of_tiles.cores.items t d) (took t) (heard t) (shown_in_lanes of_tiles.parts.items t)
      tile_ended t d low =
          let here = tile_low t low in
          let w = some_item tasks.tiles.items t here in
          let core = tiles.cores_are.at t w d here in
          record {
            clause = tile_had scene l t receiver _ _ _ _ _ _ _ _ _ core.same (tiles.columns_are.at t w a_column here) (tiles.grants_are.at t w hearer here)
                (shown_is t w low) (ended.tiles_end t w low) ((ended.tile t w low).clause receiver);
            ample = core.ample unlacking_tiles;
          }

      pub closed : AreClosed scene l of_clients.cores.items tasks.manager.worker.core of_tiles.cores.items (shown_in_lanes of_tiles.parts.items)
      closed = record {
        client_total = clients.cores_are.count ∙ ended.clients;
        tile_total = tiles.cores_are.count ∙ ended.tiles;
        sent = sent;
        asked = asked;
        granted = granted;
        took = took;
        received = received;
        heard = heard;
        client = client_ended;
        managed = subst (IsManagerClause (sync_lists_of scene) (tile_count l) tasks.manager.worker.core received granted)
            ended.manager_ends (ended.manager.clause answerer granter);
        ample = ample;
        tile = tile_ended;
        parcel_lanes = λ c t low t_low. parcel_fronts c t a_row a_column sender receiver
            (let n = row_total in omega (arith, n, low)) (let n = column_total in omega (arith, n, t_low));
        request_lanes = λ c low. request_fronts.at c asker answerer (let n = asking_into.size in omega (arith, n, low));
        grant_lanes = λ t low. grant_fronts.at t granter hearer (let n = ended.manager.grants_are.size in omega (arith, n, low));
      }
