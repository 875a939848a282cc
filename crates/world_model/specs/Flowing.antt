-- What is true of every world that turns lead to, whoever is short in it: how many operations went where.
use Rattle.std.specs.Prelude.{◌≡◌, ℕ, ◌+◌, ◌<◌, ◌≤◌, ◌==◌, Bool, true, false, cond, List, [], ◌∷◌, ◌++◌, length, take}
use Rattle.std.specs.List.{list_any}
use Rattle.rc_base.specs.Cluster.Parcels.{is_end}
use Rattle.rc_base.specs.Cluster.Sending.{Sending, ToTile, ToManager, parcels_to, requests_in}
use Rattle.rc_base.specs.Cluster.Tiles.{tile_count}
use Rattle.rc_base.specs.Orders.Book.{IsLegalBook}
use Rattle.rc_base.specs.Orders.Journal.{is_member}
use Rattle.rc_base.specs.Orders.Sync.{sync_lists_of}
use Rattle.rc_base.specs.declared.scene.Scene.{Scene}
use Rattle.rc_base.specs.declared.state.Act.{Act}
use Rattle.rc_base.specs.declared.state.Act.TheVariants as act
use Rattle.rc_base.specs.declared.state.Parcel.{Parcel}
use Rattle.rc_base.specs.declared.sync.Entry.{Entry}
use Rattle.rc_base.specs.declared.sync.Grant.{Grant}
use Rattle.rc_base.specs.declared.sync.Grant.TheVariants as grant_item
use Rattle.rc_base.specs.declared.sync.Request.{Request}
use Rattle.rc_base.specs.declared.sync.Request.TheVariants as request
use Rattle.rc_base.specs.declared.window.Layout.{Layout}
use Rattle.order_model.specs.Standing.{performed_in, is_over}
use Rattle.sync_manager.specs.Progress.{is_end as is_end_request}
use Rattle.sync_manager.specs.Promises.{grants_of, IsManagerRight}
use Rattle.tile_model.specs.Items.{grants_heard}
use Rattle.world_model.specs.Tiles.{Tile}
use Rattle.world_model.specs.World.{World, client_total}

-- ---- counts of operations

abbrev pub wait_by : Act → ℕ
wait_by (act.Draw block) = 0
wait_by (act.Clear mask) = 0
wait_by (act.Shared part) = 0
wait_by (act.Sync op) = 1
wait_by act.End = 0

abbrev pub ask_by : Request → ℕ
ask_by (request.Op place op) = 1
ask_by request.End = 0

-- among parcels
abbrev pub waits : List Parcel → ℕ
waits [] = 0
waits (p ∷ ps) = wait_by p.act + waits ps

-- among requests
abbrev pub asks : List Request → ℕ
asks [] = 0
asks (r ∷ rs) = ask_by r + asks rs

-- that entries use of a client, of n clients
abbrev pub uses : ℕ → List Entry → ℕ → ℕ
uses n [] client = 0
uses n (e ∷ es) client = cond (is_member n e client) 1 0 + uses n es client

-- ---- the sequence in which a client sends

abbrev pub is_end_parcel : Parcel → Bool
is_end_parcel p = is_end p.act

abbrev pub is_no_more : Grant → Bool
is_no_more (grant_item.Entry e) = false
is_no_more grant_item.NoMore = true

-- a parcel for the tile: every operation that the tile was told of was asked for, but for its End, behind which it gets nothing
pub record IsToldInTurn (tile told asked : ℕ) (p : Parcel) (items : List Sending) : Type 0 where
  pub asked_all : is_end p.act ≡ false → told ≤ asked
  pub last : is_end p.act ≡ true → parcels_to tile items ≡ []

-- a request: the tile was told of the operation
abbrev pub IsAskedInTurn : ℕ → ℕ → Request → Type 0
IsAskedInTurn told asked (request.Op place op) = asked < told
IsAskedInTurn told asked request.End = Unit {0}

-- the items go to the tile and to the manager in turn, where so many operations went there before
abbrev pub IsInTurn : ℕ → ℕ → ℕ → List Sending → Type 0
IsInTurn tile told asked [] = Unit {0}
IsInTurn tile told asked (ToTile k p ∷ items) =
    ((tile == k) ≡ true → IsToldInTurn tile told asked p items) × IsInTurn tile (told + cond (tile == k) (wait_by p.act) 0) asked items
IsInTurn tile told asked (ToManager r ∷ items) = IsAskedInTurn told asked r × IsInTurn tile told (asked + ask_by r) items

-- nothing comes behind the End request
abbrev pub EndsWithRequest : List Sending → Type 0
EndsWithRequest [] = Unit {0}
EndsWithRequest (ToTile k p ∷ items) = EndsWithRequest items
EndsWithRequest (ToManager r ∷ items) = (is_end_request r ≡ true → items ≡ []) × EndsWithRequest items

-- A sequence in which each operation goes to all tiles before it goes to the manager, and that ends with an End to each.
pub record IsOrderly (l : Layout) (items : List Sending) : Type 0 where
  pub turns : (tile : ℕ) → tile < tile_count l → IsInTurn tile 0 0 items
  pub tile_ends : (tile : ℕ) → tile < tile_count l → list_any is_end_parcel (parcels_to tile items) ≡ true
  pub last : EndsWithRequest items
  pub ends : list_any is_end_request (requests_in items) ≡ true

-- ---- tiles

-- a tile that isn't short: while it isn't over, it was told of the operations that it has performed, and of that at which it holds the client
pub record IsTileCounted (n : ℕ) (took : ℕ → List Parcel) (heard : List Grant) (a : Tile) : Type 0 where
  pub heard_is : heard ≡ grants_heard a.progress
  pub performed : performed_in a.progress.log ≤ length a.progress.learnt
  pub held : (client : ℕ) → client < n → is_over a.progress ≡ false
      → waits (took client) ≡ uses n (take (performed_in a.progress.log) a.progress.learnt) client + cond (a.progress.held client) 1 0

-- a tile that took these parcels of each of n clients, and heard these grants
pub record IsTileFlowing (n : ℕ) (took : ℕ → List Parcel) (heard : List Grant) (a : Tile) : Type 0 where
  pub count : a.progress.count ≡ n
  pub closed : (client : ℕ) → client < n → a.progress.closed client ≡ list_any is_end_parcel (took client)
  pub no_more : a.progress.no_more ≡ list_any is_no_more heard
  pub ample : a.short ≡ false → IsTileCounted n took heard a

-- ---- the world

-- What each client sent and has still to send is in order; what was sent through a lane was taken of it, or is held by it; and the manager and the
-- tiles are right for what they took. This holds whoever is short.
pub record IsFlowing (scene : Scene) (l : Layout) (w : World) : Type 0 where
  -- what each client sent, what each tile took of it, what the manager did, and what each tile took of its grants
  pub sent : ℕ → List Sending
  pub took : ℕ → ℕ → List Parcel
  pub asked : ℕ → List Request
  pub heard : ℕ → List Grant
  pub orderly : (client : ℕ) → client < client_total scene → IsOrderly l (sent client ++ (w.clients client).left)
  pub parcels : (client tile : ℕ) → client < client_total scene → tile < tile_count l
      → parcels_to tile (sent client) ≡ took client tile ++ w.parcels client tile
  pub requests : (client : ℕ) → client < client_total scene → requests_in (sent client) ≡ asked client ++ w.requests client
  pub nobody_else : (client : ℕ) → client_total scene ≤ client → asked client ≡ []
  pub grants : (tile : ℕ) → tile < tile_count l → grants_of w.manager tile ≡ heard tile ++ w.grants tile
  pub manager : IsManagerRight (sync_lists_of scene) (tile_count l) asked (grants_of w.manager) w.manager
  pub legal : IsLegalBook (sync_lists_of scene) w.manager.book
  pub tiles : (tile : ℕ) → tile < tile_count l → IsTileFlowing (client_total scene) (λ client. took client tile) (heard tile) (w.tiles tile)
