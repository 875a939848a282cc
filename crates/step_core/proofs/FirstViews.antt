-- A cluster whose cores have done nothing, and whose lanes are empty, is seen as a new world of the model.
use Rattle.std.proofs.Common.{◌≡◌, ℕ, ◌<◌, false, List, [], length, refl, sym, ap, arith}
use Rattle.std.specs.Prelude.{slice_index_or, Vec}
use Rattle.std.specs.Global.{Global}
use Rattle.std.proofs.lemmas.List.FromFn.{length-map-range_with_len}
use Rattle.rc_base.specs.Cluster.Tiles.{tile_count}
use Rattle.rc_base.specs.Orders.Sync.{client_count, sync_lists_of, sync_row_of}
use Rattle.rc_base.specs.declared.cluster.TilePart.{TilePart}
use Rattle.rc_base.specs.declared.scene.Scene.{Scene}
use Rattle.rc_base.specs.declared.sync.SyncLists.{SyncLists}
use Rattle.rc_base.specs.declared.window.Layout.{Layout}
use Rattle.order_model.specs.Standing as tile_standing
use Rattle.sync_manager.specs.Cores as manager
use Rattle.sync_manager.specs.Progress.{new_progress}
use Rattle.tile_server.specs.Cores.{board_of}
use Rattle.tile_server.specs.declared.tile_core.TileCore.{TileCore}
use Rattle.world_model.specs.Tiles.{Tile}
use Rattle.world_model.specs.World.{client_total}
use Rattle.world_model.specs.World.{World as Model}
use Rattle.scene_lemmas.proofs.Scenes.{scene_counts}
use Rattle.rc_base.proofs.Paired.{some_item, same_default}
use Rattle.step_core.specs.NewWorlds.{IsNew}
use Rattle.step_core.specs.Runnable.{IsLaidOut, IsNewTileCore, new_client}
use Rattle.step_core.specs.Worlds.{AreClientsOf, AreLanesOf, ArePortsOf, AreRowsOf, ArePartsOfTile, IsTileOf}
use Rattle.step_core.specs.declared.cluster.Cluster.{Cluster}

scene_clients : (scene : Scene) → client_count (sync_lists_of scene) ≡ client_total scene
unfolding sync_lists_of
scene_clients scene = length-map-range_with_len (sync_row_of scene) 0 (client_total scene)

scene_units : (scene : Scene) → (sync_lists_of scene).units ≡ scene.decl.semaphores
unfolding sync_lists_of
scene_units scene = refl

abbrev new_tile : ℕ → TileCore → Tile
new_tile clients core = record { progress = tile_standing.new_progress clients; next = 0; board = board_of core; parts = []; short = false }

no_parts : (l : Layout) (tile : ℕ) (parts : List TilePart) → parts ≡ [] → ArePartsOfTile l tile [] parts
no_parts l tile parts none = record { count = ap length none; at = λ k e d lt few. absurd (omega arith) }

tile_is : (scene : Scene) (l : Layout) (i : ℕ) (core other : TileCore) → other ≡ core → IsNewTileCore scene.decl (client_total scene) l i core
    → IsTileOf scene l i (new_tile (client_total scene) other) core
tile_is scene l i core other same h = record {
  decl = h.decl_is;
  clients = h.clients_are;
  layout = h.layout;
  number_of = h.number_is;
  short = h.ample;
  progress = h.progress;
  next = h.rotation;
  board = λ ample. ap board_of (sym same);
  shown = λ ample. refl;
}

pub first_view : (scene : Scene) (l : Layout) (depth : ℕ) (world : Cluster) → IsLaidOut l
    → AreClientsOf scene l (new_client scene l) world.clients.items
    → manager.clients_of world.manager ≡ client_total scene → manager.tiles_of world.manager ≡ tile_count l
    → ((syncs : SyncLists) → client_count syncs ≡ client_total scene → syncs.counts ≡ scene.decl.barriers → syncs.units ≡ scene.decl.semaphores
    → manager.IsProgressOf syncs world.manager new_progress)
    → length world.tiles.items ≡ tile_count l
    → ((i : ℕ) (d : TileCore) → i < tile_count l → IsNewTileCore scene.decl (client_total scene) l i (slice_index_or world.tiles.items i d))
    → AreRowsOf depth (client_total scene) (tile_count l) (λ client tile. []) world.parcels.items
    → ArePortsOf depth (client_total scene) (tile_count l) (λ client tile. []) world.ports.items
    → AreLanesOf depth (client_total scene) (λ i. []) world.requests.items
    → AreLanesOf depth (tile_count l) (λ i. []) world.grants.items
    → length world.parts.items ≡ tile_count l
    → ((i : ℕ) (d : Vec TilePart Global) → i < tile_count l → (slice_index_or world.parts.items i d).items ≡ [])
    → IsNew scene l depth world
first_view scene l depth world laid clients manager_clients manager_tiles progress count tiles rows ports requests grants part_count parts =
    let d = some_item world.tiles.items 0 (let a = laid.some in omega arith) in
    let p = progress (sync_lists_of scene) (scene_clients scene) (scene_counts scene) (scene_units scene) in
    let w : Model = record {
      clients = new_client scene l;
      manager = new_progress;
      tiles = λ tile. new_tile (client_total scene) (slice_index_or world.tiles.items tile d);
      parcels = λ client tile. [];
      requests = λ client. [];
      grants = λ tile. [];
    } in
    record {
      model = w;
      new = record {
        left = λ client low. refl;
        tallies = λ client tile low. refl;
        ample = λ client low. refl;
        manager = refl;
        tiles = λ tile lt. record { progress = refl; next = refl; board = (tiles tile d lt).board; parts = refl; ample = refl };
        parcels = λ client tile low lt. refl;
        requests = λ client low. refl;
        grants = λ tile lt. refl;
      };
      view = record {
        seen = record {
          clients = clients;
          manager = record { clients = manager_clients; tiles = manager_tiles; progress = p };
          tiles = record {
            count = count;
            at = λ i e lt. tile_is scene l i (slice_index_or world.tiles.items i e) (slice_index_or world.tiles.items i d)
                (same_default world.tiles.items i d e (omega arith)) (tiles i e lt);
          };
          parcels = rows;
          ports = ports;
          requests = requests;
          grants = grants;
          lists = part_count;
        };
        ample = record { clients = λ client low. refl; manager = refl; tiles = λ tile lt. refl };
        parts = record { count = part_count; at = λ i e lt. no_parts l i (slice_index_or world.parts.items i e).items (parts i e lt) };
      };
    }
