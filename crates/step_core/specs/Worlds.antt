-- How a cluster on one thread is seen as a world of the model: each core and each lane as what the model says of it.
use Rattle.std.specs.Prelude.{◌≡◌, ℕ, ◌+◌, ◌<◌, ◌≤◌, ◌^◌, true, false, List, length, None, Some, slice_get, slice_index_or, pos, Vec}
use Rattle.std.specs.Global.{Global}
use Rattle.rc_base.specs.Cluster.PlainLanes.{held, depth_of}
use Rattle.rc_base.specs.Cluster.Tiles.{tile_count, tile_pixels, tile_rectangle}
use Rattle.rc_base.specs.Drawing.Images.{Pixels}
use Rattle.rc_base.specs.Orders.Sync.{sync_lists_of}
use Rattle.rc_base.specs.declared.cluster.TilePart.{TilePart}
use Rattle.rc_base.specs.declared.plain_lane.PlainLane.{PlainLane}
use Rattle.rc_base.specs.declared.scene.Scene.{Scene}
use Rattle.rc_base.specs.declared.state.Parcel.{Parcel}
use Rattle.rc_base.specs.declared.window.Layout.{Layout}
use Rattle.draw_device.specs.Devices.{pixel_index, rect_size}
use Rattle.client_issue.specs.Cores as client
use Rattle.client_issue.specs.declared.client.ClientCore.{ClientCore}
use Rattle.sync_manager.specs.Cores as manager
use Rattle.sync_manager.specs.Progress.{ManagerProgress}
use Rattle.sync_manager.specs.declared.manager.ManagerCore.{ManagerCore}
use Rattle.tile_model.specs.Items.{shown_frames}
use Rattle.tile_server.specs.Cores as tile
use Rattle.tile_server.specs.declared.tile_core.TileCore.{TileCore}
use Rattle.world_model.specs.Tiles.{Tile}
use Rattle.world_model.specs.Turns.{AreAmple}
use Rattle.world_model.specs.World.{Client, client_total}
use Rattle.world_model.specs.World.{World as Model}
use Rattle.step_core.specs.declared.cluster.Cluster.{Cluster}
use Rattle.step_core.specs.declared.port.Port.{Port}

-- ---- lanes

-- the lane holds these items, and at most so many
pub record IsLaneOf {T : Type 0} (depth : ℕ) (items : List T) (lane : PlainLane T) : Type 0 where
  pub holds : held lane ≡ items
  pub most : depth_of lane ≡ depth

-- as many lanes as that, each of which holds the items of its number
pub record AreLanesOf {T : Type 0} (depth n : ℕ) (items : ℕ → List T) (lanes : List (PlainLane T)) : Type 0 where
  pub count : length lanes ≡ n
  pub at : (i : ℕ) (d : PlainLane T) → i < n → IsLaneOf depth (items i) (slice_index_or lanes i d)

-- by tiles and in them by clients
pub record AreRowsOf (depth clients tiles : ℕ) (items : ℕ → ℕ → List Parcel) (rows : List (Vec (PlainLane Parcel) Global)) : Type 0 where
  pub count : length rows ≡ tiles
  pub at : (tile : ℕ) (d : Vec (PlainLane Parcel) Global) → tile < tiles
      → AreLanesOf depth clients (λ client. items client tile) (slice_index_or rows tile d).items

-- ---- ports

-- nothing waits in it; as many items stand at the tile, and at most so many may
pub record IsEmptyPort (depth : ℕ) (items : List Parcel) (port : Port) : Type 0 where
  pub empty : port.sent ≡ None
  pub count : port.count ≡ length items
  pub most : port.depth ≡ depth

-- of one client, to each tile
pub record IsPortRow (depth tiles : ℕ) (items : ℕ → List Parcel) (row : List Port) : Type 0 where
  pub count : length row ≡ tiles
  pub at : (tile : ℕ) (d : Port) → tile < tiles → IsEmptyPort depth (items tile) (slice_index_or row tile d)

-- by clients and in them by tiles
pub record ArePortsOf (depth clients tiles : ℕ) (items : ℕ → ℕ → List Parcel) (ports : List (Vec Port Global)) : Type 0 where
  pub count : length ports ≡ clients
  pub at : (client : ℕ) (d : Vec Port Global) → client < clients → IsPortRow depth tiles (items client) (slice_index_or ports client d).items

-- ---- parts

-- The part has these pixels of its tile, row by row from the lowest, each row from the left.
pub record IsPartOf (l : Layout) (this_tile this_frame : ℕ) (pixels : Pixels) (part : TilePart) : Type 0 where
  pub tile : part.tile ≡ this_tile
  pub frame : part.frame ≡ this_frame
  pub count : length part.pixels ≡ rect_size (tile_rectangle l this_tile)
  pub pixel : (x y : ℕ) → tile_pixels l this_tile x y ≡ true
      → slice_get part.pixels (pixel_index (tile_rectangle l this_tile) (pos x) (pos y)) ≡ Some (pixels (pos x) (pos y))

-- Of each frame that the tile has shown one part, frames rising from 1, as long as their number has 32 bits.
pub record ArePartsOfTile (l : Layout) (this_tile : ℕ) (shown : List Pixels) (parts : List TilePart) : Type 0 where
  pub count : length parts ≡ length shown
  pub at : (k : ℕ) (e : Pixels) (d : TilePart) → k < length shown → k + 1 < 2 ^ 32
      → IsPartOf l this_tile (k + 1) (slice_index_or shown k e) (slice_index_or parts k d)

-- ---- actors

module _ (scene : Scene) (l : Layout) where
  pub record IsClientOf (number : ℕ) (c : Client) (core : ClientCore) : Type 0 where
    pub whose : client.IsClientOf core scene number l
    pub short : client.short_of core ≡ c.short
    pub left : client.left_in core ≡ c.left
    pub tallies : (tile : ℕ) → client.tally_of_tile core tile ≡ c.tallies tile

  pub record IsManagerOf (p : ManagerProgress) (core : ManagerCore) : Type 0 where
    pub clients : manager.clients_of core ≡ client_total scene
    pub tiles : manager.tiles_of core ≡ tile_count l
    pub progress : manager.IsProgressOf (sync_lists_of scene) core p

  pub record IsTileOf (number : ℕ) (a : Tile) (core : TileCore) : Type 0 where
    pub decl : tile.decl_of core ≡ scene.decl
    pub clients : tile.clients_of core ≡ client_total scene
    pub layout : tile.layout_of core ≡ l
    pub number_of : tile.tile_of core ≡ number
    pub short : tile.is_short core ≡ a.short
    pub progress : tile.IsProgressOf core a.progress
    pub next : tile.next_of core ≡ a.next
    -- a tile that isn't short has its board, and has shown a frame for each Swap that it has performed
    pub board : a.short ≡ false → tile.board_of core ≡ a.board
    pub shown : a.short ≡ false → length a.parts ≡ shown_frames a.progress

  pub record AreClientsOf (cs : ℕ → Client) (cores : List ClientCore) : Type 0 where
    pub count : length cores ≡ client_total scene
    pub at : (i : ℕ) (d : ClientCore) → i < client_total scene → IsClientOf i (cs i) (slice_index_or cores i d)

  pub record AreTilesOf (tiles : ℕ → Tile) (cores : List TileCore) : Type 0 where
    pub count : length cores ≡ tile_count l
    pub at : (i : ℕ) (d : TileCore) → i < tile_count l → IsTileOf i (tiles i) (slice_index_or cores i d)

  pub record AreShown (tiles : ℕ → Tile) (parts : List (Vec TilePart Global)) : Type 0 where
    pub count : length parts ≡ tile_count l
    pub at : (i : ℕ) (d : Vec TilePart Global) → i < tile_count l → ArePartsOfTile l i ((tiles i).parts) (slice_index_or parts i d).items

-- ---- all of it

-- The cluster is seen as the model's world, whoever is short in it: its lanes hold at most `depth` items.
pub record IsSeenAs (scene : Scene) (l : Layout) (depth : ℕ) (world : Cluster) (w : Model) : Type 0 where
  pub clients : AreClientsOf scene l w.clients world.clients.items
  pub manager : IsManagerOf scene l w.manager world.manager
  pub tiles : AreTilesOf scene l w.tiles world.tiles.items
  pub parcels : AreRowsOf depth (client_total scene) (tile_count l) w.parcels world.parcels.items
  pub ports : ArePortsOf depth (client_total scene) (tile_count l) w.parcels world.ports.items
  pub requests : AreLanesOf depth (client_total scene) w.requests world.requests.items
  pub grants : AreLanesOf depth (tile_count l) w.grants world.grants.items
  pub lists : length world.parts.items ≡ tile_count l

-- and nobody is short, and the parts are those that the tiles have shown
pub record IsViewOf (scene : Scene) (l : Layout) (depth : ℕ) (world : Cluster) (w : Model) : Type 0 where
  pub seen : IsSeenAs scene l depth world w
  pub ample : AreAmple scene l w
  pub parts : AreShown scene l w.tiles world.parts.items

-- it is seen as some world of the model, of no more actors than a scene may have
pub record IsSeen (world : Cluster) : Type 0 where
  pub scene : Scene
  pub l : Layout
  pub depth : ℕ
  pub model : Model
  pub view : IsSeenAs scene l depth world model
  pub few : client_total scene ≤ 8
  pub few_tiles : tile_count l ≤ 32
