-- What a manager's core does next, by what it stores.
use Rattle.std.specs.Prelude.{◌≡◌, ℕ, ◌+◌, ◌-◌, ◌<◌, ◌≤◌, ◌||◌, true, false, [], length, ◌⊎◌, List, Option, Some, None, slice_get}
use Rattle.rc_base.specs.Orders.Book.{with_at}
use Rattle.rc_base.specs.declared.sync.Entry.{Entry}
use Rattle.rc_base.specs.declared.sync.Grant.{Grant}
use Rattle.rc_base.specs.declared.sync.Grant.TheVariants as grant_item
use Rattle.rc_base.specs.declared.sync.Request.{Request}
use Rattle.rc_base.specs.declared.sync.Request.TheVariants as request
use Rattle.rc_base.specs.declared.sync.SyncLists.{SyncLists}
use Rattle.rc_base.specs.declared.sync.SyncOp.{SyncOp}
use Rattle.sync_manager.specs.Books.{AllWaitOrEnded, first_in, is_wanted, journal_in, names_declared}
use Rattle.sync_manager.specs.Cores.{book_of, clients_of, drained_in, AreServed, AreSupplied, IsManagerStep}
use Rattle.sync_manager.specs.Progress.{ManagerProgress, is_end, IsFoundEmpty, IsFoundFull, taken_of, sent_to}
use Rattle.sync_manager.specs.declared.deed.ManagerDeed.{ManagerDeed}
use Rattle.sync_manager.specs.declared.deed.ManagerDeed.TheVariants.{Receives, Loses}
use Rattle.sync_manager.specs.declared.deed.Task.{Task}
use Rattle.sync_manager.specs.declared.deed.Task.TheVariants.{Deliver, Grant as GrantTask, Receive, Drain}
use Rattle.sync_manager.specs.declared.manager.ManagerCore.{ManagerCore}

-- every tile has every entry
abbrev pub AllSupplied : ManagerCore → Type 0
AllSupplied core = core.supplied < core.tiles → journal_in core.book ≡ []

-- the entry that the book would grant
abbrev pub grant_in : ManagerCore → Option Entry
grant_in core = first_in core.book

-- no more is granted
abbrev pub NoMoreIn : ManagerCore → Type 0
NoMoreIn core = (core.short ≡ true) ⊎ ((grant_in core ≡ None) × AllWaitOrEnded core.book)

-- the last entry goes to the first tile without it; else NoMore goes to the first tile without that
abbrev pub IsDeliveryIn : ManagerCore → ℕ → Grant → Type 0
IsDeliveryIn core tile (grant_item.Entry e) =
    (tile ≡ core.supplied) × (tile < core.tiles) × (slice_get (journal_in core.book) (length (journal_in core.book) - 1) ≡ Some e)
IsDeliveryIn core tile grant_item.NoMore = (tile ≡ core.told) × (tile < core.tiles) × AllSupplied core × NoMoreIn core

pub record IsReceivingIn (core : ManagerCore) : Type 0 where
  pub supplied : AllSupplied core
  pub ample : core.short ≡ false
  pub none : grant_in core ≡ None
  pub goes_on : AllWaitOrEnded core.book → ⊥

pub record IsDrainingIn (core : ManagerCore) : Type 0 where
  pub supplied : AllSupplied core
  pub no_more : NoMoreIn core
  pub told : core.tiles ≤ core.told

abbrev pub IsTask : ManagerCore → Task → Type 0
IsTask core (Deliver tile g) = IsDeliveryIn core tile g
IsTask core (GrantTask e) = AllSupplied core × (core.short ≡ false) × (grant_in core ≡ Some e)
IsTask core Receive = IsReceivingIn core
IsTask core Drain = IsDrainingIn core

-- ---- a request that was taken

-- requests are received, and the client neither waits nor has ended
pub record MayReceive (core : ManagerCore) (client : ℕ) : Type 0 where
  pub low : client < clients_of core
  pub wanted : is_wanted (book_of core) client ≡ true
  pub task : IsReceivingIn core

-- the request ends its client
abbrev pub IsEnding : ManagerCore → Request → Type 0
IsEnding core (request.Op place op) = names_declared core.book op ≡ false
IsEnding core request.End = Unit {0}

-- The core notes that a request of the client was taken; its book and its tiles are as before.
pub record IsNoted (core : ManagerCore) (client : ℕ) (r : Request) (later : ManagerCore) : Type 0 where
  pub book : later.book ≡ core.book
  pub tiles : later.tiles ≡ core.tiles
  pub supplied : later.supplied ≡ core.supplied
  pub told : later.told ≡ core.told
  pub left : (i : ℕ) → i < 8 → drained_in later i ≡ with_at (drained_in core) client (drained_in core client || is_end r) i
  pub start : later.start ≡ client + 1
  pub short : later.short ≡ core.short

-- the request is taken and arrives, or it is an operation that is taken and lost
abbrev pub IsTaking : ManagerDeed → ℕ → Request → Type 0
IsTaking deed client r = (deed ≡ Receives client r)
    ⊎ ((place : ℕ) × (op : SyncOp) × (r ≡ request.Op place op) × (deed ≡ Loses client place op))

-- by a step of the core
pub record IsTakingIn (core : ManagerCore) (client : ℕ) (r : Request) (deed : ManagerDeed) (later : ManagerCore) : Type 0 where
  pub step : IsManagerStep core deed later
  pub taken : IsTaking deed client r

-- ---- the lanes that a step doesn't touch

-- nothing is taken of a client, and no lane of requests is found empty
pub record LeavesRequests (deed : ManagerDeed) : Type 0 where
  pub none : (i : ℕ) → taken_of deed i ≡ None
  pub nowhere : (syncs : SyncLists) (d : ManagerProgress) (i : ℕ) → IsFoundEmpty syncs d deed i → ⊥

-- nothing is appended, and no lane of grants is found full
pub record LeavesGrants (deed : ManagerDeed) : Type 0 where
  pub none : (i : ℕ) → sent_to deed i ≡ []
  pub nowhere : (i : ℕ) → IsFoundFull deed i → ⊥

module _ {I : Type 0} (lane_of : I → List ℕ) (gave : I → Request → I → Type 0) (same : I → I → Type 0) (empty_seen : I → ℕ) (bare : I → Type 0) where
  -- a step that takes a request, or finds none, and touches no lane of grants
  pub record IsServing (core : ManagerCore) (deed : ManagerDeed) (later : ManagerCore) (before after : List I) : Type 0 where
    pub step : IsManagerStep core deed later
    pub requests : AreServed lane_of gave same empty_seen bare core deed before after
    pub grants : LeavesGrants deed

module _ {O : Type 0} (lane_of : O → List ℕ) (sent : O → List Grant) (full_seen : O → ℕ) (full : O → Type 0) where
  -- a step that appends a grant, or finds its lane full, and touches no lane of requests
  pub record IsSupplying (core : ManagerCore) (deed : ManagerDeed) (later : ManagerCore) (before after : List O) : Type 0 where
    pub step : IsManagerStep core deed later
    pub grants : AreSupplied lane_of sent full_seen full deed before after
    pub requests : LeavesRequests deed
