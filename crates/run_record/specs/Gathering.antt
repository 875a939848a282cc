-- What is gathered of each actor, by its number.
use Rattle.std.specs.Prelude.{◌≡◌, ℕ, ◌+◌, ◌*◌, ◌<◌, min, false, List, [], length, slice_get, slice_index_or, Vec}
use Rattle.std.specs.Global.{Global}
use Rattle.std.specs.List.{sum_by}
use Rattle.std.specs.Option.{option_map_or}
use Rattle.rc_base.specs.Contexts.Issue.{faults_of}
use Rattle.rc_base.specs.Orders.Sync.{sync_row_of}
use Rattle.rc_base.specs.Outside.Causes.{last_count}
use Rattle.rc_base.specs.declared.cluster.Tally.{Tally}
use Rattle.rc_base.specs.declared.cluster.TilePart.{TilePart}
use Rattle.rc_base.specs.declared.scene.Scene.{Scene}
use Rattle.rc_base.specs.declared.state.Fault.{Fault}
use Rattle.rc_base.specs.declared.sync.SyncRow.{SyncRow}
use Rattle.rc_base.specs.declared.window.Layout.{Layout}
use Rattle.client_issue.specs.Cores as client
use Rattle.client_issue.specs.declared.client.ClientCore.{ClientCore}
use Rattle.order_model.specs.Standing.{Progress}
use Rattle.order_model.specs.declared.record.LogEntry.{LogEntry}
use Rattle.tile_server.specs.Cores as tile
use Rattle.tile_server.specs.declared.tile_core.TileCore.{TileCore}

-- ---- tiles

-- the log of what the core stands for
abbrev pub IsLogOf : ℕ → TileCore → List LogEntry → Type 0
IsLogOf number core log = (p : Progress) → tile.IsProgressOf core p → log ≡ p.log

-- ---- clients

-- the core is that of a client of a scene that has sent all
pub record HasSent (scene : Scene) (l : Layout) (number : ℕ) (core : ClientCore) : Type 0 where
  pub whose : client.IsClientOf core scene number l
  pub ample : client.short_of core ≡ false
  pub all : client.left_in core ≡ []

-- its operations and its faults, those of the whole stream
abbrev pub IsRowOf : ℕ → ClientCore → SyncRow → Type 0
IsRowOf number core row = (scene : Scene) (l : Layout) → HasSent scene l number core → row ≡ sync_row_of scene number

abbrev pub AreFaultsOf : ℕ → ClientCore → List (ℕ × Fault) → Type 0
AreFaultsOf number core faults = (scene : Scene) (l : Layout) → HasSent scene l number core → faults ≡ faults_of scene number

-- each of these cores is that of a client that has sent all
pub record HaveSent (scene : Scene) (l : Layout) (cores : List ClientCore) : Type 0 where
  pub at : (i : ℕ) (d : ClientCore) → i < length cores → HasSent scene l i (slice_index_or cores i d)

-- the tallies of all these clients for a tile as one
pub record IsSum (cores : List ClientCore) (tile : ℕ) (sum : Tally) : Type 0 where
  pub parcels : sum.parcels ≡ min (sum_by (λ (core : ClientCore). (client.tally_of_tile core tile).parcels) cores) last_count
  pub sets : sum.sets ≡ min (sum_by (λ (core : ClientCore). (client.tally_of_tile core tile).sets) cores) last_count
  pub looks : sum.looks ≡ min (sum_by (λ (core : ClientCore). (client.tally_of_tile core tile).looks) cores) last_count

-- so for each tile
pub record AreSums (cores : List ClientCore) (tiles : ℕ) (sums : List Tally) : Type 0 where
  pub count : length sums ≡ tiles
  pub each : (scene : Scene) (l : Layout) → HaveSent scene l cores → (tile : ℕ) → tile < tiles → IsSum cores tile (slice_index_or sums tile client.no_tally)

-- ---- parts

-- the parts in a tile's list
abbrev pub shown_by : List (Vec TilePart Global) → ℕ → List TilePart
shown_by lists tile = option_map_or (λ (list : Vec TilePart Global). list.items) (slice_get lists tile) []

-- each tile has a part of so many frames
pub record AreEven (frames : ℕ) (lists : List (Vec TilePart Global)) : Type 0 where
  pub each : (tile : ℕ) (d : Vec TilePart Global) → tile < length lists → length (slice_index_or lists tile d).items ≡ frames

-- The first frames of all tiles, frames rising and in each the tiles rising.
pub record AreInFrames (frames : ℕ) (lists : List (Vec TilePart Global)) (parts : List TilePart) : Type 0 where
  pub count : length parts ≡ frames * length lists
  pub at : (frame tile : ℕ) (d : Vec TilePart Global) (x : TilePart) → frame < frames → tile < length lists
      → slice_index_or parts (frame * length lists + tile) x ≡ slice_index_or (slice_index_or lists tile d).items frame x
