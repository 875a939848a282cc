-- The stepped cluster as it stands between two steps: how far each actor is, and what each lane holds. Nothing of code is in it.
use Rattle.std.specs.Prelude.{◌≡◌, ℕ, ◌<◌, ◌≤◌, Bool, false, List, [], length}
use Rattle.rc_base.specs.Cluster.Sending.{Sending, sent_by}
use Rattle.rc_base.specs.Cluster.Tiles.{tile_count}
use Rattle.rc_base.specs.declared.cluster.Tally.{Tally}
use Rattle.rc_base.specs.declared.scene.Scene.{Scene}
use Rattle.rc_base.specs.declared.state.Parcel.{Parcel}
use Rattle.rc_base.specs.declared.sync.Grant.{Grant}
use Rattle.rc_base.specs.declared.sync.Request.{Request}
use Rattle.rc_base.specs.declared.window.Layout.{Layout}
use Rattle.client_issue.specs.Cores.{no_tally}
use Rattle.client_issue.specs.Turns.{ClientLanes}
use Rattle.sync_manager.specs.Progress.{ManagerProgress, new_progress}
use Rattle.world_model.specs.Tiles.{Tile, IsNewTile}

-- what it has still to send, by tiles the tallies of what it sent, and whether memory has lacked
pub record Client : Type 0 where
  pub left : List Sending
  pub tallies : ℕ → Tally
  pub short : Bool

-- The actors by their numbers, and the items that the lanes hold: parcels by client and tile, requests by client, grants by tile.
pub record World : Type 0 where
  pub clients : ℕ → Client
  pub manager : ManagerProgress
  pub tiles : ℕ → Tile
  pub parcels : ℕ → ℕ → List Parcel
  pub requests : ℕ → List Request
  pub grants : ℕ → List Grant

-- What the lanes hold, or held where each was looked at.
pub record Lanes : Type 0 where
  pub parcels : ℕ → ℕ → List Parcel
  pub requests : ℕ → List Request
  pub grants : ℕ → List Grant

-- what they hold in a world
abbrev pub all_lanes : World → Lanes
all_lanes w = record { parcels = w.parcels; requests = w.requests; grants = w.grants }

-- a client with what its own lanes hold
abbrev pub lanes_of : World → ℕ → ClientLanes
lanes_of w client = record { left = (w.clients client).left; parcels = w.parcels client; requests = w.requests client }

-- how many clients a scene has
abbrev pub client_total : Scene → ℕ
client_total scene = length scene.streams

module _ (scene : Scene) (l : Layout) where
  -- Nobody has done anything: each client has all of its sequence to send, and the lanes are empty.
  pub record IsNewWorld (w : World) : Type 0 where
    pub left : (client : ℕ) → client < client_total scene → (w.clients client).left ≡ sent_by scene l client
    pub tallies : (client tile : ℕ) → client < client_total scene → (w.clients client).tallies tile ≡ no_tally
    pub ample : (client : ℕ) → client < client_total scene → (w.clients client).short ≡ false
    pub manager : w.manager ≡ new_progress
    pub tiles : (tile : ℕ) → tile < tile_count l → IsNewTile scene.decl l (client_total scene) tile (w.tiles tile)
    pub parcels : (client tile : ℕ) → client < client_total scene → tile < tile_count l → w.parcels client tile ≡ []
    pub requests : (client : ℕ) → client < client_total scene → w.requests client ≡ []
    pub grants : (tile : ℕ) → tile < tile_count l → w.grants tile ≡ []

  -- no lane holds more than its depth
  pub record LanesFit (depth : ℕ) (w : World) : Type 0 where
    pub parcels : (client tile : ℕ) → client < client_total scene → tile < tile_count l → length (w.parcels client tile) ≤ depth
    pub requests : (client : ℕ) → client < client_total scene → length (w.requests client) ≤ depth
    pub grants : (tile : ℕ) → tile < tile_count l → length (w.grants tile) ≤ depth
