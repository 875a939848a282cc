-- What a manager's core stands for.
use Rattle.std.specs.Prelude.{◌≡◌, ℕ, ◌-◌, ◌<◌, ◌≤◌, not, nat_lt, Bool, true, false, cond, List, ◌++◌, length, slice_index_or, MatchOption}
use Rattle.rc_base.specs.Cluster.Lanes.{EachLane}
use Rattle.rc_base.specs.Outside.Causes.{Rose}
use Rattle.rc_base.specs.Orders.Sync.{client_count}
use Rattle.rc_base.specs.declared.scene.Decl.{Decl}
use Rattle.rc_base.specs.declared.sync.Grant.{Grant}
use Rattle.rc_base.specs.declared.sync.Request.{Request}
use Rattle.rc_base.specs.declared.sync.SyncLists.{SyncLists}
use Rattle.sync_manager.specs.Books.{IsBookOf, clients_in, is_wanted, journal_in}
use Rattle.sync_manager.specs.Progress.{ManagerProgress, new_progress, progress_after, is_loss, IsNextDeed, IsFoundEmpty, IsFoundFull, taken_of, sent_to}
use Rattle.sync_manager.specs.declared.book.Book.{Book}
use Rattle.sync_manager.specs.declared.manager.ManagerCore.{ManagerCore}
use Rattle.sync_manager.specs.declared.deed.ManagerDeed.{ManagerDeed}

-- how many clients it has
abbrev pub clients_of : ManagerCore → ℕ
clients_of core = clients_in core.book

-- how many tiles it has
abbrev pub tiles_of : ManagerCore → ℕ
tiles_of core = core.tiles

-- its book
abbrev pub book_of : ManagerCore → Book
book_of core = core.book

-- memory has lacked
abbrev pub is_short : ManagerCore → Bool
is_short core = core.short

-- how many entries were appended for the tile: all, or all but the last
abbrev pub delivered_in : ManagerCore → ℕ → ℕ
delivered_in core tile = cond (nat_lt tile core.supplied) (length (journal_in core.book)) (length (journal_in core.book) - 1)

-- the End of the client was taken
abbrev pub drained_in : ManagerCore → ℕ → Bool
drained_in core client = not (slice_index_or core.left client true)

-- The core stands for what was done.
pub record IsProgressOf (syncs : SyncLists) (core : ManagerCore) (d : ManagerProgress) : Type 0 where
  pub book : IsBookOf syncs core.book d.book
  pub drained : (client : ℕ) → client < clients_in core.book → d.drained client ≡ drained_in core client
  pub delivered : (tile : ℕ) → tile < core.tiles → d.delivered tile ≡ delivered_in core tile
  pub told : (tile : ℕ) → tile < core.tiles → d.told tile ≡ nat_lt tile core.told
  pub next : d.next ≡ core.start
  pub short : d.short ≡ core.short

-- something is so whatever the core stands for
abbrev pub OfProgress : ManagerCore → (SyncLists → ManagerProgress → Type 0) → Type 0
OfProgress core is_so = (syncs : SyncLists) (d : ManagerProgress) → IsProgressOf syncs core d → is_so syncs d

-- nothing was done, by so many clients, with barriers and units as they are declared
abbrev pub IsNewManager : Decl → ℕ → ManagerCore → Type 0
IsNewManager decl clients core =
    (syncs : SyncLists) → client_count syncs ≡ clients → syncs.counts ≡ decl.barriers → syncs.units ≡ decl.semaphores → IsProgressOf syncs core new_progress

-- the clients, by number, that neither wait nor have ended
abbrev pub AreWanted : ManagerCore → List Bool → Type 0
AreWanted core asks = (client : ℕ) → client < clients_of core → slice_index_or asks client true ≡ is_wanted core.book client

-- NoMore is with every tile
abbrev pub HasToldAll : ManagerCore → Type 0
HasToldAll core = core.tiles ≤ core.told

-- the clients, by number, whose End wasn't taken
abbrev pub AreLeft : ManagerCore → List Bool → Type 0
AreLeft core asks = (client : ℕ) → not (slice_index_or asks client true) ≡ drained_in core client

-- ---- a step

-- A step does this, and then the core stands for what was done before and this.
pub record IsManagerStep (core : ManagerCore) (deed : ManagerDeed) (later : ManagerCore) : Type 0 where
  pub clients : clients_of later ≡ clients_of core
  pub tiles : tiles_of later ≡ tiles_of core
  pub short : is_short later ≡ cond (is_loss deed) true (is_short core)
  pub ample : is_loss deed ≡ true → is_short core ≡ false
  pub first : (syncs : SyncLists) (d : ManagerProgress) → IsProgressOf syncs core d → IsNextDeed syncs (tiles_of core) d deed
  pub after : (syncs : SyncLists) (d : ManagerProgress) → IsProgressOf syncs core d → IsProgressOf syncs later (progress_after syncs d deed)

module _ {I : Type 0} (gave : I → Request → I → Type 0) (same : I → I → Type 0) where
  -- each lane of requests gave what was taken of its client, and no other lane gave anything
  abbrev pub AreTaken : ManagerDeed → List I → List I → Type 0
  AreTaken deed before after = EachLane (λ i a b. MatchOption (taken_of deed i) (same a b) (λ r. gave a r b)) before after

module _ {I : Type 0} (empty_seen : I → ℕ) (bare : I → Type 0) where
  -- each lane that the step found empty counted that
  abbrev pub AreFoundEmpty : ManagerCore → ManagerDeed → List I → List I → Type 0
  AreFoundEmpty core deed before after = (syncs : SyncLists) (d : ManagerProgress) → IsProgressOf syncs core d
      → EachLane (λ i a b. IsFoundEmpty syncs d deed i → Rose (empty_seen a) (empty_seen b) × bare b) before after

module _ {O : Type 0} (sent : O → List Grant) where
  -- each lane of grants gained what was appended for its tile
  abbrev pub AreSent : ManagerDeed → List O → List O → Type 0
  AreSent deed before after = EachLane (λ i a b. sent b ≡ sent a ++ sent_to deed i) before after

module _ {O : Type 0} (full_seen : O → ℕ) (full : O → Type 0) where
  -- the lane that the step found full counted that, once; every other count is as it was
  abbrev pub AreFoundFull : ManagerDeed → List O → List O → Type 0
  AreFoundFull deed before after =
      EachLane (λ i a b. (IsFoundFull deed i → Rose (full_seen a) (full_seen b) × full b) × ((IsFoundFull deed i → ⊥) → full_seen b ≡ full_seen a)) before after

module _ {I : Type 0} (lane_of : I → List ℕ) (gave : I → Request → I → Type 0) (same : I → I → Type 0) (empty_seen : I → ℕ) (bare : I → Type 0) where
  -- what the step makes of the lanes of requests
  pub record AreServed (core : ManagerCore) (deed : ManagerDeed) (before after : List I) : Type 0 where
    pub lanes : EachLane (λ i a b. lane_of b ≡ lane_of a) before after
    pub taken : AreTaken gave same deed before after
    pub empty : AreFoundEmpty empty_seen bare core deed before after

module _ {O : Type 0} (lane_of : O → List ℕ) (sent : O → List Grant) (full_seen : O → ℕ) (full : O → Type 0) where
  -- and of the lanes of grants
  pub record AreSupplied (deed : ManagerDeed) (before after : List O) : Type 0 where
    pub lanes : EachLane (λ i a b. lane_of b ≡ lane_of a) before after
    pub appended : AreSent sent deed before after
    pub found_full : AreFoundFull full_seen full deed before after
