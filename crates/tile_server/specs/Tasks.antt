-- What a tile's core does next, by what it stores.
use Rattle.std.specs.Prelude.{◌≡◌, ℕ, ◌+◌, ◌<◌, ◌&&◌, ◌||◌, not, min, Bool, true, false, cond, Result, Some, None, is_none, OnOk, OnErr}
use Rattle.rc_base.specs.declared.cluster.TilePart.{TilePart}
use Rattle.rc_base.specs.declared.out_of_memory.OutOfMemory.{OutOfMemory}
use Rattle.rc_base.specs.declared.state.Parcel.{Parcel}
use Rattle.rc_base.specs.declared.sync.Entry.{Entry}
use Rattle.order_model.specs.Standing.{Progress}
use Rattle.tile_model.specs.Boards.{IsCarriedOut}
use Rattle.tile_model.specs.Givable.{is_givable}
use Rattle.tile_model.specs.Items.{after_work}
use Rattle.tile_server.specs.Boards.{IsPartOf, IsSameTile}
use Rattle.tile_server.specs.Cores.{board_of, clients_of, decl_of, layout_of, tile_of, IsTileStep}
use Rattle.tile_server.specs.Deeds.{granted_of, taken_of, IsFoundEmpty, IsUnheard}
use Rattle.tile_server.specs.Ledgers.{closed_in, held_in, is_over_in, HoldsAll, IsLedgerStep, IsSameLedger}
use Rattle.tile_server.specs.declared.deed.TileDeed.{TileDeed}
use Rattle.tile_server.specs.declared.tile_core.TileCore.{TileCore}

-- the entry is known, and each of its members is held
pub record IsDueIn (core : TileCore) (e : Entry) : Type 0 where
  pub ample : core.short ≡ false
  pub known : core.ledger.known ≡ Some e
  pub held : HoldsAll core.ledger.held core.ledger.clients e

abbrev pub NothingIsDueIn : TileCore → Type 0
NothingIsDueIn core = (e : Entry) → IsDueIn core e → ⊥

-- it takes what is granted
abbrev pub listens_in : TileCore → Bool
listens_in core = cond core.short (not core.ledger.no_more) (cond core.ledger.no_more false (is_none core.ledger.known))

-- a grant may be taken
pub record MayLearn (core : TileCore) : Type 0 where
  pub undue : NothingIsDueIn core
  pub listens : listens_in core ≡ true

-- it takes from the client
abbrev pub asks_in : TileCore → ℕ → Bool
asks_in core client =
    cond core.short (not (closed_in core.ledger client))
    (not (closed_in core.ledger client) && (not (held_in core.ledger client) || is_over_in core.ledger))

-- these tell of each client whether it takes from it

-- a parcel of the client may be taken
pub record MayTakeIn (core : TileCore) (client : ℕ) : Type 0 where
  pub undue : NothingIsDueIn core
  pub low : client < clients_of core
  pub asked : asks_in core client ≡ true

-- of a client that isn't held, by a tile that isn't short
pub record IsFreeIn (core : TileCore) (client : ℕ) : Type 0 where
  pub take : MayTakeIn core client
  pub ample : core.short ≡ false
  pub free : held_in core.ledger client ≡ false

-- the number of the frame that is shown next, as far as 32 bits go
abbrev pub next_frame : TileCore → ℕ
next_frame core = min (core.frames + 1) 4294967295

-- the part is the tile's of the frame that is shown next, with the board's pixels
abbrev pub IsNextPart : TileCore → TilePart → Type 0
IsNextPart core part = IsPartOf (layout_of core) (tile_of core) (next_frame core) (board_of core) part

-- nothing is left to do
pub record IsFinishedIn (core : TileCore) : Type 0 where
  pub no_more : core.ledger.no_more ≡ true
  pub performed : core.short ≡ false → is_over_in core.ledger ≡ true
  pub closed : (client : ℕ) → client < clients_of core → closed_in core.ledger client ≡ true

-- ---- work that is carried out

-- The client's parcel is drawn, and logged; all else is as it was.
pub record IsWorked (core : TileCore) (client : ℕ) (parcel : Parcel) (later : TileCore) : Type 0 where
  pub ledger : IsLedgerStep false core.ledger (λ p. after_work p client parcel.place) false later.ledger
  pub done : is_givable (decl_of core) parcel ≡ true
      → IsCarriedOut (decl_of core) (layout_of core) client (tile_of core) parcel (board_of core) (board_of later)
  pub ignored : is_givable (decl_of core) parcel ≡ false → board_of later ≡ board_of core

-- it is of the same tile, is as short as it was, and goes on with the same client and frame
pub record IsAlike (core later : TileCore) : Type 0 where
  pub canvas : IsSameTile core.canvas.drawn later.canvas.drawn
  pub clients : clients_of later ≡ clients_of core
  pub next : later.next ≡ core.next
  pub frames : later.frames ≡ core.frames
  pub short : later.short ≡ core.short

-- that is done, where memory doesn't lack for its log; else its ledger is the same
pub record WorkIsTried (core : TileCore) (client : ℕ) (parcel : Parcel) (tried : Result (Unit {0}) OutOfMemory) (later : TileCore) : Type 0 where
  pub alike : IsAlike core later
  pub worked : OnOk tried (IsWorked core client parcel later)
  pub ledger : OnErr tried (IsSameLedger core.ledger later.ledger)

-- ---- lanes

-- no client's lane gives anything, or is found empty
pub record LeavesClients (deed : TileDeed) : Type 0 where
  pub none : (i : ℕ) → taken_of deed i ≡ None
  pub nowhere : (short : Bool) (p : Progress) (next i : ℕ) → IsFoundEmpty short p next deed i → ⊥

-- the lane of grants gives nothing, and isn't found empty
pub record LeavesGrants (deed : TileDeed) : Type 0 where
  pub none : granted_of deed ≡ None
  pub nowhere : (short : Bool) (p : Progress) → IsUnheard short p deed → ⊥

-- a step that touches no lane
pub record IsInternalStep (core : TileCore) (deed : TileDeed) (later : TileCore) : Type 0 where
  pub step : IsTileStep core deed later
  pub clients : LeavesClients deed
  pub grants : LeavesGrants deed
