-- What a crew has shown, whoever lacked memory, and what the image was given of it.
use Rattle.std.proofs.Common.{◌≡◌, ◌<◌, ℕ, List, [], ◌++◌, length, refl, sym, ap, ◌∙◌, subst, arith, append-nil}
use Rattle.std.specs.Prelude.{slice_get, slice_index_or, option_to_list, Option}
use Rattle.std.specs.Option.{option_map_or}
use Rattle.rc_base.proofs.Known.{Appends-none}
use Rattle.rc_base.proofs.Paired.{some_item}
use Rattle.rc_base.specs.Cluster.Tiles.{tile_count}
use Rattle.rc_base.specs.Formats.Within.{IsLayoutFor}
use Rattle.rc_base.specs.Lists.{ArePaired, IsFront}
use Rattle.rc_base.specs.Orders.Sync.{IsWellFormed, sync_lists_of}
use Rattle.rc_base.specs.Outside.Ends.{use_of, Used, TookFront}
use Rattle.rc_base.specs.declared.cluster.TilePart.{TilePart}
use Rattle.rc_base.specs.declared.scene.Scene.{Scene}
use Rattle.rc_base.specs.declared.state.Parcel.{Parcel}
use Rattle.rc_base.specs.declared.sync.Grant.{Grant}
use Rattle.rc_base.specs.declared.sync.Request.{Request}
use Rattle.rc_base.specs.declared.window.Layout.{Layout}
use Rattle.order_model.specs.Report.{image_text_of}
use Rattle.run_record.specs.Collected.{IsSmall}
use Rattle.scene_lemmas.proofs.Scenes.{scene_client_count}
use Rattle.tile_model.specs.Scenes.{IsInRange, HasSides}
use Rattle.tile_queues.specs.Ends.{sent_of, taken_of}
use Rattle.tile_queues.specs.declared.ends.LaneIn.{LaneIn}
use Rattle.tile_queues.specs.declared.ends.LaneOut.{LaneOut}
use Rattle.worker_crew.specs.declared.crew.Crew.{Crew}
use Rattle.worker_crew.specs.declared.task.Task.{Task}
use Rattle.shown_frames.specs.Clusters.{AreShowing, ShownPartsBeginAWholeRun}
use Rattle.shown_frames.specs.Images.{GaveFrontOfRun, GaveShown, ShownFramesAreOfTheRun}
use Rattle.shown_frames.specs.Shown.{HasShown, NewTilesShow, TilesGoOnShowing}
use Rattle.shown_frames.specs.Unfinished.{UnfinishedRunsGoOn}
use Rattle.cluster_run.specs.Clusters.{LaneNames, IsCluster, IsEndedCluster}
use Rattle.cluster_run.specs.Serving.{shown_by_tasks, shown_in_lanes}
use Rattle.cluster_run.specs.Tiles.{parts_of}
use Rattle.cluster_run.specs.Workers.{AreBegun, AreOrderly, AreUnused, HaveGoneOn}
use Rattle.cluster_run.specs.declared.workers.ClientWorker.{ClientWorker}
use Rattle.cluster_run.specs.declared.workers.ManagerWorker.{ManagerWorker}
use Rattle.cluster_run.specs.declared.workers.TileWorker.{TileWorker}
use Rattle.std.proofs.lemmas.Option.{slice_get-get_or}
use Rattle.cluster_run.proofs.ClosedCrews.{shown_at}
use Rattle.cluster_run.proofs.TilesShown.{all_turns, begins_showing}

-- the laws that are cited
pub record ShownLaws : Type 0 where
  pub new : NewTilesShow
  pub go_on : TilesGoOnShowing
  pub parts : ShownPartsBeginAWholeRun
  pub images : ShownFramesAreOfTheRun

-- the lane of parts of a tile's worker
shown_of : {R : Type 0} (tasks : List (Task (TileWorker R))) (t : ℕ) (v : Task (TileWorker R)) → t < length tasks
    → option_map_or (λ (task : Task (TileWorker R)). sent_of task.worker.parts) (slice_get tasks t) [] ≡ sent_of (slice_index_or tasks t v).worker.parts
shown_of tasks t v lt = rw (slice_get-get_or tasks t v lt) refl

tasks_shown : {R : Type 0} (tasks : List (Task (TileWorker R))) (parts : List (LaneIn TilePart R)) → ArePaired (λ tile task end. end ≡ task.worker.parts) tasks parts
    → (t : ℕ) → t < length tasks
    → option_map_or (λ (task : Task (TileWorker R)). sent_of task.worker.parts) (slice_get tasks t) [] ≡ shown_in_lanes parts t
tasks_shown tasks parts are t lt =
    let low : t < length parts = (let n = are.count in omega (arith, n, lt)) in
    let v = some_item tasks t lt in
    let a = some_item parts t low in
    shown_of tasks t v lt ∙ ap (λ (x : LaneIn TilePart _). sent_of x) (sym (are.at t v a lt)) ∙ sym (shown_at parts t a low)

-- what was given of the lanes of a crew's parts was given of what its tiles have shown
pub gave_shown_of : {R : Type 0} (l : Layout) (tasks : Crew (Task (ClientWorker R)) (Task (ManagerWorker R)) (Task (TileWorker R))) (parts : List (LaneIn TilePart R)) (image : Used)
    → ArePaired (λ tile task end. end ≡ task.worker.parts) tasks.tiles.items parts → length tasks.tiles.items ≡ tile_count l → GaveShown l (shown_in_lanes parts) image
    → GaveShown l (shown_by_tasks tasks) image
gave_shown_of l tasks parts image are count h = record {
  took = h.took;
  written = h.written;
  given = h.given;
  fronts = λ tile lt.
      subst (λ (ps : List TilePart). IsFront (h.took tile) ps) (sym (tasks_shown tasks.tiles.items parts are tile (omega (arith, count, lt)))) (h.fronts tile lt);
}

module _ {R : Type 0} (laws : ShownLaws) (scene : Scene) (l : Layout) (names : LaneNames) (crew : Crew (ClientWorker R) (ManagerWorker R) (TileWorker R))
    (tasks : Crew (Task (ClientWorker R)) (Task (ManagerWorker R)) (Task (TileWorker R))) (some : 0 < length scene.streams) (some_tiles : 0 < tile_count l)
    (range : IsInRange scene) (sides : HasSides scene.decl) (first : IsCluster scene l names crew) (unused : AreUnused (length scene.streams) (tile_count l) crew)
    (begun : AreBegun (tile_count l) crew) (on : HaveGoneOn crew tasks) (ended : IsEndedCluster scene l names tasks)
    (orderly : AreOrderly (length scene.streams) (tile_count l) tasks) where
  -- ---- something to name where there is no end

  a_client : Task (ClientWorker R)
  a_client = some_item tasks.clients.items 0 (let n = ended.clients in omega (arith, n, some))

  a_tile : Task (TileWorker R)
  a_tile = some_item tasks.tiles.items 0 (let n = ended.tiles in omega (arith, n, some_tiles))

  sender : LaneIn Parcel R
  sender = some_item (slice_index_or tasks.clients.items 0 a_client).worker.tiles.items 0 (let n = (ended.client 0 a_client some).tiles_are.size in omega (arith, n, some_tiles))

  receiver : LaneOut Parcel R
  receiver = some_item (slice_index_or tasks.tiles.items 0 a_tile).worker.clients.items 0 (let n = (ended.tile 0 a_tile some_tiles).clients_are.size in omega (arith, n, some))

  answerer : LaneOut Request R
  answerer = some_item tasks.manager.worker.requests.items 0 (let n = ended.manager.requests_are.size in let m = scene_client_count scene in omega (arith, n, m, some))

  granter : LaneIn Grant R
  granter = some_item tasks.manager.worker.grants.items 0 (let n = ended.manager.grants_are.size in omega (arith, n, some_tiles))

  -- ---- each tile

  tile_has_shown : (t : ℕ) → t < tile_count l
      → (let w = (slice_index_or tasks.tiles.items t a_tile).worker in
      HasShown scene l t (λ c. taken_of (slice_index_or w.clients.items c receiver)) (taken_of w.grants) (shown_by_tasks tasks t))
  tile_has_shown t lt =
      let here : t < length crew.tiles.items = (let n = first.tiles in omega (arith, n, lt)) in
      let a = some_item crew.tiles.items t here in
      let w = slice_index_or crew.tiles.items t a in
      let is = first.tile t a lt in
      let led = on.tiles.at t a a_tile here in
      let shows = begins_showing laws.new scene l t receiver w range sides (is.clause receiver) (begun.ample t a lt) (λ c low. unused.untaken t c a receiver lt low)
      (unused.unheard t a lt) (unused.unshown t a lt) (begun.none_waits t a lt) in
      let last = (slice_index_or tasks.tiles.items t a_tile).worker in
      let k = all_turns laws.go_on scene l t receiver w last led.turns is.clients_are.size shows led.are in
      let over = ended.tile t a_tile lt in
      let parts : parts_of last ≡ shown_by_tasks tasks t =
      ap (λ (o : Option TilePart). sent_of last.parts ++ option_to_list o) (over.none_waits (ended.tiles_end t a_tile lt)) ∙ append-nil (sent_of last.parts)
      ∙ sym (shown_of tasks.tiles.items t a_tile (let n = ended.tiles in omega (arith, n, lt))) in
      subst (λ (ps : List TilePart). HasShown scene l t (λ c. taken_of (slice_index_or last.clients.items c receiver)) (taken_of last.grants) ps) parts k.shown

  -- ---- all of them

  pub are_showing : AreShowing scene l (shown_by_tasks tasks)
  are_showing = record {
    sent = λ c t. sent_of (slice_index_or (slice_index_or tasks.clients.items c a_client).worker.tiles.items t sender);
    asked = λ c. sent_of (slice_index_or tasks.clients.items c a_client).worker.requests;
    granted = λ t. sent_of (slice_index_or tasks.manager.worker.grants.items t granter);
    took = λ t c. taken_of (slice_index_or (slice_index_or tasks.tiles.items t a_tile).worker.clients.items c receiver);
    received = λ c. taken_of (slice_index_or tasks.manager.worker.requests.items c answerer);
    heard = λ t. taken_of (slice_index_or tasks.tiles.items t a_tile).worker.grants;
    client = λ c low.
        record { core = (slice_index_or tasks.clients.items c a_client).worker.core; ended = (slice_index_or tasks.clients.items c a_client).worker.ended; clause = (ended.client c a_client low).clause sender };
    managed = record { core = tasks.manager.worker.core; ended = tasks.manager.worker.ended; clause = ended.manager.clause answerer granter };
    tile = tile_has_shown;
    parcel_lanes = λ c t low t_low. orderly.parcels c t a_client a_tile sender receiver low t_low;
    request_lanes = λ c low. orderly.requests c a_client answerer low;
    grant_lanes = λ t low. orderly.grants t a_tile granter low;
  }

  -- an image that was given what they have shown
  pub gave_front_of_run : (depth : ℕ) (image : Used) → IsLayoutFor scene l depth → IsWellFormed (sync_lists_of scene) → IsSmall scene
      → GaveShown l (shown_by_tasks tasks) image → GaveFrontOfRun scene l image
  gave_front_of_run depth image fits well small given =
      let k = laws.parts scene l (shown_by_tasks tasks) well small range sides are_showing in
      record { kept = k.0; lawful = k.1.lawful; front = laws.images scene l depth k.0 (shown_by_tasks tasks) image fits k.1 given }

-- ---- an image that was given nothing

pub nothing_given_of_run : {K : Type 0} (held : K → Option (List ℕ)) (faults : K → ℕ) → UnfinishedRunsGoOn → (scene : Scene) (l : Layout) → IsWellFormed (sync_lists_of scene)
    → (before after : K) → after ≡ before → GaveFrontOfRun scene l (use_of held faults before after)
nothing_given_of_run held faults go_on scene l well before after same =
    let k = go_on scene l [] (λ tile. []) well (record { legal = tt; replays = λ tile low. tt }) in
    record {
      kept = k.0;
      lawful = k.1.lawful;
      front = subst (λ image. TookFront (use_of held faults before image) (image_text_of scene l k.0)) (sym same)
          (record { done = 0; part = omega arith; given = Appends-none (held before) });
    }
