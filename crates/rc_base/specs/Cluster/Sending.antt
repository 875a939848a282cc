-- What a client sends, item by item: at rising places the parcels of a command to its tiles, rising, and then its request; at the end an End to
-- each tile and to the manager.
use Rattle.std.specs.Prelude.{ℕ, zero, suc, ◌==◌, cond, List, [], ◌∷◌, ◌++◌, length, map}
use Rattle.std.specs.List.{flat_map, range_with_len}
use Rattle.rc_base.specs.Contexts.Issue.{stream_of, effect_at}
use Rattle.rc_base.specs.Orders.Sync.{ops_of, wait_of, sync_lists_of}
use Rattle.rc_base.specs.Cluster.Tiles.{tile_count}
use Rattle.rc_base.specs.Cluster.Parcels.{parcels_at, parcels_before, end_parcel}
use Rattle.rc_base.specs.declared.scene.Scene.{Scene}
use Rattle.rc_base.specs.declared.state.Parcel.{Parcel}
use Rattle.rc_base.specs.declared.sync.Request.{Request}
use Rattle.rc_base.specs.declared.sync.Request.TheVariants as request
use Rattle.rc_base.specs.declared.sync.WaitAt.{WaitAt}
use Rattle.rc_base.specs.declared.window.Layout.{Layout}

-- an item, and the lane that it goes to: a parcel to a tile, or a request to the manager
pub data Sending : Type 0 where
  ToTile : (tile : ℕ) (p : Parcel) → Sending
  ToManager : (r : Request) → Sending

-- ---- what goes where

abbrev pub parcels_to : ℕ → List Sending → List Parcel
parcels_to tile [] = []
parcels_to tile (ToTile k p ∷ items) = cond (tile == k) (p ∷ parcels_to tile items) (parcels_to tile items)
parcels_to tile (ToManager r ∷ items) = parcels_to tile items

abbrev pub requests_in : List Sending → List Request
requests_in [] = []
requests_in (ToTile k p ∷ items) = requests_in items
requests_in (ToManager r ∷ items) = r ∷ requests_in items

-- ---- the sequence

-- these parcels of each tile, tiles rising
abbrev pub to_tiles : Layout → (ℕ → List Parcel) → List Sending
to_tiles l parcels = flat_map (λ tile. map (λ p. ToTile tile p) (parcels tile)) (range_with_len 0 (tile_count l))

abbrev pub request_of : WaitAt → Request
request_of w = request.Op w.place w.op

-- what is sent of a command: its parcels, and then its request where it is an operation of synchronisation
abbrev pub sent_at : Scene → Layout → ℕ → ℕ → List Sending
sent_at scene l client place =
    to_tiles l (λ tile. parcels_at scene l client tile place (parcels_before scene l client tile place))
    ++ map (λ (w : WaitAt). ToManager (request_of w)) (wait_of place (effect_at scene client place))

-- of the first n commands
unfoldable pub sent_before : Scene → Layout → ℕ → ℕ → List Sending
sent_before scene l client zero = []
sent_before scene l client (suc n) = sent_before scene l client n ++ sent_at scene l client n

-- the End parcels and the End request
abbrev pub sent_last : Scene → Layout → ℕ → List Sending
sent_last scene l client = to_tiles l (λ tile. end_parcel (length (stream_of scene client)) ∷ []) ++ ToManager request.End ∷ []

-- all that a client sends, in its sequence
unfoldable pub sent_by : Scene → Layout → ℕ → List Sending
sent_by scene l client = sent_before scene l client (length (stream_of scene client)) ++ sent_last scene l client

-- the requests among them
abbrev pub requests_of : Scene → ℕ → List Request
requests_of scene client = map request_of (ops_of (sync_lists_of scene) client) ++ request.End ∷ []
