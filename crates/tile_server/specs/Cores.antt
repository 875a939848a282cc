-- What a tile's core stands for, and what a step makes of it.
use Rattle.std.specs.Prelude.{◌≡◌, ℕ, ◌+◌, ◌<◌, ◌^◌, Bool, true, false, cond, List, length, MatchOption}
use Rattle.rc_base.specs.Cluster.Lanes.{EachLane}
use Rattle.rc_base.specs.Cluster.Parcels.{is_end}
use Rattle.rc_base.specs.Outside.Causes.{Rose}
use Rattle.rc_base.specs.declared.scene.Decl.{Decl}
use Rattle.rc_base.specs.declared.state.Parcel.{Parcel}
use Rattle.rc_base.specs.declared.sync.Grant.{Grant}
use Rattle.rc_base.specs.declared.window.Layout.{Layout}
use Rattle.order_model.specs.Board.{Board}
use Rattle.order_model.specs.Standing.{Progress}
use Rattle.tile_model.specs.Boards.{IsDrawn}
use Rattle.tile_model.specs.Items.{shown_frames}
use Rattle.tile_server.specs.Boards.{IsPartOf}
use Rattle.tile_server.specs.LazyBoards.{board_in}
use Rattle.tile_server.specs.Deeds.{item_of, is_loss, next_after, progress_after, IsNextDeed, IsFoundEmpty, IsUnheard, granted_of, taken_of}
use Rattle.tile_server.specs.Ledgers.{IsLedgerOf}
use Rattle.order_model.specs.declared.record.LogEntry.{LogEntry}
use Rattle.tile_server.specs.declared.deed.Taking.{Taking}
use Rattle.tile_server.specs.declared.deed.TileDeed.{TileDeed}
use Rattle.tile_server.specs.declared.deed.TileDeed.TheVariants.{Shows, Takes}
use Rattle.tile_server.specs.declared.tile_core.TileCore.{TileCore}

-- the declaration of the scenes that it is for
abbrev pub decl_of : TileCore → Decl
decl_of core = core.canvas.drawn.decl

abbrev pub layout_of : TileCore → Layout
layout_of core = core.canvas.drawn.layout

-- its tile's number
abbrev pub tile_of : TileCore → ℕ
tile_of core = core.canvas.drawn.tile

-- how many clients it has
abbrev pub clients_of : TileCore → ℕ
clients_of core = core.ledger.clients

-- what it keeps for drawing
abbrev pub board_of : TileCore → Board
board_of core = board_in core.canvas

-- the client with which its rotation goes on
abbrev pub next_of : TileCore → ℕ
next_of core = core.next

-- how many blocks wait to be drawn
abbrev pub waiting_of : TileCore → ℕ
waiting_of core = length core.canvas.waiting

-- its log
abbrev pub log_of : TileCore → List LogEntry
log_of core = core.ledger.log.items

-- memory has lacked
abbrev pub is_short : TileCore → Bool
is_short core = core.short

-- The core stands for how far the tile is. It numbers frames as long as their number has 32 bits.
pub record IsProgressOf (core : TileCore) (p : Progress) : Type 0 where
  pub ledger : IsLedgerOf core.short core.ledger p
  pub frames : core.short ≡ false → shown_frames p < 2 ^ 32 → core.frames ≡ shown_frames p

-- ---- a step

-- it is of the same tile of the same cluster
pub record IsSameCore (core later : TileCore) : Type 0 where
  pub decl : decl_of later ≡ decl_of core
  pub clients : clients_of later ≡ clients_of core
  pub layout : layout_of later ≡ layout_of core
  pub tile : tile_of later ≡ tile_of core

-- the part that is shown has the board's pixels, and the number of its frame: one more than so many frames
abbrev pub IsShown : Layout → ℕ → Progress → Board → TileDeed → Type 0
IsShown l tile p b deed =
    (part : _) → deed ≡ Shows part → shown_frames p + 1 < 2 ^ 32 → IsPartOf l tile (shown_frames p + 1) b part

-- A step does this: the first case that applies. Then the core stands for how far the tile was and this, and its board is what the item makes of it.
pub record IsTileStep (core : TileCore) (deed : TileDeed) (later : TileCore) : Type 0 where
  pub same : IsSameCore core later
  pub short : is_short later ≡ cond (is_loss deed) true (is_short core)
  pub ample : is_loss deed ≡ true → is_short core ≡ false
  pub rotation : next_of later ≡ next_after (next_of core) deed
  pub first : (p : Progress) → IsProgressOf core p → IsNextDeed (is_short core) p deed
  pub after : (p : Progress) → IsProgressOf core p → IsProgressOf later (progress_after (is_short later) p deed)
  pub drawn : (p : Progress) → IsProgressOf core p → is_short later ≡ false
      → IsDrawn (decl_of core) (layout_of core) (tile_of core) p (item_of deed) (board_of core) (board_of later)
  pub shown : (p : Progress) → IsProgressOf core p → IsShown (layout_of core) (tile_of core) p (board_of core) deed

-- Contracts see the same of both: the tile, what the ledger tells, the board, the client with which the rotation goes on, the number of the last frame,
-- and whether memory has lacked.
pub record IsSameView (core later : TileCore) : Type 0 where
  pub same : IsSameCore core later
  pub ledger : later.ledger ≡ core.ledger
  pub board : board_of later ≡ board_of core
  pub rotation : next_of later ≡ next_of core
  pub frames : later.frames ≡ core.frames
  pub short : is_short later ≡ is_short core

-- memory lacked in the step, and hadn't before
abbrev pub BecameShort : TileCore → TileCore → Type 0
BecameShort core later = (is_short core ≡ false) × (is_short later ≡ true)

-- whatever parcel of the client is taken, but its End, the step is this
abbrev pub TakesMore : TileCore → ℕ → Taking → TileCore → Type 0
TakesMore core client how later = (parcel : Parcel) → is_end parcel.act ≡ false → IsTileStep core (Takes client parcel how) later

-- ---- its lanes

module _ {L : Type 0} (lane_of : L → List ℕ) where
  -- each lane is the one that it was
  abbrev pub AreSameLanes : List L → List L → Type 0
  AreSameLanes before after = EachLane (λ i a b. lane_of b ≡ lane_of a) before after

module _ {I : Type 0} (gave : I → Parcel → I → Type 0) (same : I → I → Type 0) where
  -- each client's lane gave what was taken of it, and no other lane gave anything
  abbrev pub AreTaken : TileDeed → List I → List I → Type 0
  AreTaken deed before after = EachLane (λ i a b. MatchOption (taken_of deed i) (same a b) (λ parcel. gave a parcel b)) before after

module _ {I : Type 0} (empty_seen : I → ℕ) (bare : I → Type 0) where
  -- each lane that the step found empty counted that
  abbrev pub AreFoundEmpty : TileCore → TileDeed → List I → List I → Type 0
  AreFoundEmpty core deed before after = (p : Progress) → IsProgressOf core p
      → EachLane (λ i a b. IsFoundEmpty (is_short core) p (next_of core) deed i → Rose (empty_seen a) (empty_seen b) × bare b) before after

module _ {J : Type 0} (gave : J → Grant → J → Type 0) (same : J → J → Type 0) where
  -- the lane of grants gave what was taken of it
  abbrev pub IsHeard : TileDeed → J → J → Type 0
  IsHeard deed before after = MatchOption (granted_of deed) (same before after) (λ g. gave before g after)

module _ {J : Type 0} (empty_seen : J → ℕ) (bare : J → Type 0) where
  -- where the step found the lane of grants empty, that is counted
  abbrev pub CountsUnheard : TileCore → TileDeed → J → J → Type 0
  CountsUnheard core deed before after = (p : Progress) → IsProgressOf core p
      → IsUnheard (is_short core) p deed → Rose (empty_seen before) (empty_seen after) × bare after

module _ {I : Type 0} (lane_of : I → List ℕ) (gave : I → Parcel → I → Type 0) (same : I → I → Type 0) (empty_seen : I → ℕ) (bare : I → Type 0) where
  -- what the step makes of the clients' lanes
  pub record AreServed (core : TileCore) (deed : TileDeed) (before after : List I) : Type 0 where
    pub lanes : AreSameLanes lane_of before after
    pub taken : AreTaken gave same deed before after
    pub empty : AreFoundEmpty empty_seen bare core deed before after

module _ {J : Type 0} (lane_of : J → List ℕ) (gave : J → Grant → J → Type 0) (same : J → J → Type 0) (empty_seen : J → ℕ) (bare : J → Type 0) where
  -- and of the lane of grants
  pub record IsHeardFrom (core : TileCore) (deed : TileDeed) (before after : J) : Type 0 where
    pub lane : lane_of after ≡ lane_of before
    pub heard : IsHeard gave same deed before after
    pub unheard : CountsUnheard empty_seen bare core deed before after

module _ {I : Type 0} (lane_of : I → List ℕ) (gave : I → Parcel → I → Type 0) (same : I → I → Type 0) (empty_seen : I → ℕ) (bare : I → Type 0) where
  module _ {J : Type 0} (lane_of_grants : J → List ℕ) (granted : J → Grant → J → Type 0) (same_grants : J → J → Type 0) (unheard_of : J → ℕ) (bare_of_grants : J → Type 0) where
    -- a step, and what it makes of all lanes
    pub record IsTileAct (core : TileCore) (deed : TileDeed) (later : TileCore) (before after : List I) (earlier behind : J) : Type 0 where
      pub step : IsTileStep core deed later
      pub clients : AreServed lane_of gave same empty_seen bare core deed before after
      pub grants : IsHeardFrom lane_of_grants granted same_grants unheard_of bare_of_grants core deed earlier behind
