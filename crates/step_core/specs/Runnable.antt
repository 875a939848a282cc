-- What a scene, a layout and a depth have to be for a cluster to be made.
use Rattle.std.specs.Prelude.{◌≡◌, ℕ, ◌<◌, ◌≤◌, false, length, Some}
use Rattle.rc_base.specs.Cluster.Sending.{sent_by}
use Rattle.rc_base.specs.Cluster.Tiles.{tile_count}
use Rattle.rc_base.specs.Lists.{at_name}
use Rattle.rc_base.specs.declared.scene.Decl.{Decl}
use Rattle.rc_base.specs.declared.scene.Scene.{Scene}
use Rattle.rc_base.specs.declared.window.Layout.{Layout}
use Rattle.order_model.specs.Standing.{new_progress}
use Rattle.client_issue.specs.Cores.{no_tally}
use Rattle.tile_model.specs.Boards.{IsNewBoard}
use Rattle.tile_server.specs.Cores as tile
use Rattle.tile_server.specs.declared.tile_core.TileCore.{TileCore}
use Rattle.world_model.specs.World.{Client, client_total}

-- it has a tile, and at most 32
pub record IsLaidOut (l : Layout) : Type 0 where
  pub some : 0 < tile_count l
  pub most : tile_count l ≤ 32

-- lanes hold at least one item, and at most 16
pub record IsDepth (depth : ℕ) : Type 0 where
  pub some : 1 ≤ depth
  pub most : depth ≤ 16

-- there are 1 to 8 clients, and fewer than 256 barriers count one client or more each
pub record HasActors (scene : Scene) : Type 0 where
  pub some : 0 < client_total scene
  pub most : client_total scene ≤ 8
  pub barriers : length scene.decl.barriers < 256
  pub counts : (barrier count : ℕ) → at_name scene.decl.barriers barrier ≡ Some count → 0 < count

-- a client that has sent nothing
abbrev pub new_client : Scene → Layout → ℕ → Client
new_client scene l client = record { left = sent_by scene l client; tallies = λ tile. no_tally; short = false }

-- the core of a tile that has done nothing
pub record IsNewTileCore (decl : Decl) (clients : ℕ) (l : Layout) (number : ℕ) (core : TileCore) : Type 0 where
  pub decl_is : tile.decl_of core ≡ decl
  pub clients_are : tile.clients_of core ≡ clients
  pub layout : tile.layout_of core ≡ l
  pub number_is : tile.tile_of core ≡ number
  pub rotation : tile.next_of core ≡ 0
  pub ample : tile.is_short core ≡ false
  pub progress : tile.IsProgressOf core (new_progress clients)
  pub board : IsNewBoard decl l number (tile.board_of core)
