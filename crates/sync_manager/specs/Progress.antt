-- What a manager has done so far, what its next step does, and what it has done after that.
use Rattle.std.specs.Prelude.{◌≡◌, ℕ, ◌+◌, ◌<◌, ◌==◌, ◌&&◌, ◌||◌, not, nat_lt, Bool, true, false, cond, is_some, List, [], ◌∷◌, length, ◌⊎◌, Option, Some, None, slice_get, Result, Ok, Err}
use Rattle.rc_base.specs.Cluster.Lanes.{IsEarlier}
use Rattle.rc_base.specs.Orders.Book.{Book, BookEvent, new_book, standing, waiting_in, with_at, with_entry, book_after, is_declared, IsBookOver}
use Rattle.rc_base.specs.Orders.Book.BookEvent.{Arrives, Ends}
use Rattle.rc_base.specs.Orders.Grant.{grant}
use Rattle.rc_base.specs.Orders.Journal.{NothingIsLawful}
use Rattle.rc_base.specs.Orders.Sync.{client_count}
use Rattle.rc_base.specs.declared.cluster.ManagerMoved.{ManagerMoved}
use Rattle.rc_base.specs.declared.cluster.ManagerMoved.TheVariants as moved
use Rattle.rc_base.specs.declared.out_of_memory.OutOfMemory.{OutOfMemory}
use Rattle.rc_base.specs.declared.sync.Grant.{Grant}
use Rattle.rc_base.specs.declared.sync.Grant.TheVariants as grant_item
use Rattle.rc_base.specs.declared.sync.Request.{Request}
use Rattle.rc_base.specs.declared.sync.Request.TheVariants as request
use Rattle.rc_base.specs.declared.sync.SyncLists.{SyncLists}
use Rattle.sync_manager.specs.declared.deed.ManagerDeed.{ManagerDeed}
use Rattle.sync_manager.specs.declared.deed.ManagerDeed.TheVariants.{Delivers, FindsFull, Grants, Receives, Loses, FindsNoRequest, Drops, FindsNoneLeft, Finishes}

-- its book; of each client how many requests were taken, and whether its End was; of each tile how many entries were appended, and whether NoMore
-- was; the client with which the rotation goes on; and whether memory has lacked
pub record ManagerProgress : Type 0 where
  pub book : Book
  pub taken : ℕ → ℕ
  pub drained : ℕ → Bool
  pub delivered : ℕ → ℕ
  pub told : ℕ → Bool
  pub next : ℕ
  pub short : Bool

abbrev pub new_progress : ManagerProgress
new_progress = record {
  book = new_book;
  taken = λ client. 0;
  drained = λ client. false;
  delivered = λ tile. 0;
  told = λ tile. false;
  next = 0;
  short = false;
}

-- ---- the tiles

-- the lowest number below n that passes a test
pub record IsLowest (passes : ℕ → Bool) (n k : ℕ) : Type 0 where
  pub low : k < n
  pub here : passes k ≡ true
  pub lower : (i : ℕ) → i < k → passes i ≡ false

abbrev pub NonePasses : (ℕ → Bool) → ℕ → Type 0
NonePasses passes n = (i : ℕ) → i < n → passes i ≡ false

-- an entry isn't yet with the tile
abbrev pub lacks_entry : ManagerProgress → ℕ → Bool
lacks_entry d tile = nat_lt (d.delivered tile) (length d.book.journal)

-- NoMore isn't yet with the tile
abbrev pub lacks_end : ManagerProgress → ℕ → Bool
lacks_end d tile = not (d.told tile)

-- each entry is with each tile
abbrev pub AllDelivered : ℕ → ManagerProgress → Type 0
AllDelivered tiles d = NonePasses (lacks_entry d) tiles

-- no entry will be granted any more: the book is over, or memory has lacked
abbrev pub NoMoreComes : SyncLists → ManagerProgress → Type 0
NoMoreComes syncs d = (d.short ≡ true) ⊎ IsBookOver syncs d.book

-- what is to be appended next, and to which tile: the journal's next entry to the lowest that lacks one, else, where no more comes, NoMore
abbrev pub IsGrantDue : SyncLists → ℕ → ManagerProgress → ℕ → Grant → Type 0
IsGrantDue syncs tiles d tile (grant_item.Entry e) = IsLowest (lacks_entry d) tiles tile × (slice_get d.book.journal (d.delivered tile) ≡ Some e)
IsGrantDue syncs tiles d tile grant_item.NoMore = AllDelivered tiles d × NoMoreComes syncs d × IsLowest (lacks_end d) tiles tile

-- ---- the clients

-- the client neither waits nor has ended
abbrev pub may_arrive : SyncLists → Book → ℕ → Bool
may_arrive syncs b client = not (b.ended client) && not (is_some (waiting_in syncs b client))

-- requests may arrive: each entry is with each tile, none can be granted, and the book isn't over
pub record IsReceiving (syncs : SyncLists) (tiles : ℕ) (d : ManagerProgress) : Type 0 where
  pub delivered : AllDelivered tiles d
  pub ample : d.short ≡ false
  pub nothing : NothingIsLawful syncs (standing syncs d.book)
  pub goes_on : IsBookOver syncs d.book → ⊥

-- requests are dropped: each entry and NoMore is with each tile
pub record IsDraining (syncs : SyncLists) (tiles : ℕ) (d : ManagerProgress) : Type 0 where
  pub delivered : AllDelivered tiles d
  pub no_more : NoMoreComes syncs d
  pub told : NonePasses (lacks_end d) tiles

abbrev pub is_end : Request → Bool
is_end (request.Op place op) = false
is_end request.End = true

-- a request for what isn't declared ends its client, as End does
abbrev pub event_of : SyncLists → ℕ → Request → BookEvent
event_of syncs client (request.Op place op) = cond (is_declared syncs op) (Arrives client record { place = place; op = op }) (Ends client)
event_of syncs client request.End = Ends client

-- ---- a step

-- What the next step does: the first of its cases that applies.
abbrev pub IsNextDeed : SyncLists → ℕ → ManagerProgress → ManagerDeed → Type 0
IsNextDeed syncs tiles d (Delivers tile g) = IsGrantDue syncs tiles d tile g
IsNextDeed syncs tiles d (FindsFull tile) = (g : Grant) × IsGrantDue syncs tiles d tile g
IsNextDeed syncs tiles d (Grants e) = AllDelivered tiles d × (d.short ≡ false) × (grant syncs (standing syncs d.book) ≡ Some e)
IsNextDeed syncs tiles d (Receives client r) = IsReceiving syncs tiles d × (client < client_count syncs) × (may_arrive syncs d.book client ≡ true)
IsNextDeed syncs tiles d (Loses client place op) =
    IsReceiving syncs tiles d × (client < client_count syncs) × (may_arrive syncs d.book client ≡ true) × (is_declared syncs op ≡ true)
IsNextDeed syncs tiles d FindsNoRequest = IsReceiving syncs tiles d
IsNextDeed syncs tiles d (Drops client r) = IsDraining syncs tiles d × (client < client_count syncs) × (d.drained client ≡ false)
IsNextDeed syncs tiles d FindsNoneLeft = IsDraining syncs tiles d × ((client : ℕ) × (client < client_count syncs) × (d.drained client ≡ false))
IsNextDeed syncs tiles d Finishes = IsDraining syncs tiles d × ((client : ℕ) → client < client_count syncs → d.drained client ≡ true)

-- a request was taken
abbrev pub with_taken : ManagerProgress → ℕ → Request → ManagerProgress
with_taken d client r = record d {
  taken = with_at d.taken client (d.taken client + 1);
  drained = with_at d.drained client (d.drained client || is_end r);
  next = client + 1;
}

abbrev pub with_grant : ManagerProgress → ℕ → Grant → ManagerProgress
with_grant d tile (grant_item.Entry e) = record d { delivered = with_at d.delivered tile (d.delivered tile + 1) }
with_grant d tile grant_item.NoMore = record d { told = with_at d.told tile true }

abbrev pub progress_after : SyncLists → ManagerProgress → ManagerDeed → ManagerProgress
progress_after syncs d (Delivers tile g) = with_grant d tile g
progress_after syncs d (FindsFull tile) = d
progress_after syncs d (Grants e) = record d { book = with_entry d.book (Some e) }
progress_after syncs d (Receives client r) = record (with_taken d client r) { book = book_after syncs d.book (event_of syncs client r) }
progress_after syncs d (Loses client place op) = record (with_taken d client (request.Op place op)) { short = true }
progress_after syncs d FindsNoRequest = d
progress_after syncs d (Drops client r) = with_taken d client r
progress_after syncs d FindsNoneLeft = d
progress_after syncs d Finishes = d

-- what the step answers
abbrev pub answer_of : ManagerDeed → Result ManagerMoved OutOfMemory
answer_of (Delivers tile g) = Ok (moved.Delivered tile)
answer_of (FindsFull tile) = Ok (moved.BlockedGrant tile)
answer_of (Grants e) = Ok moved.Granted
answer_of (Receives client r) = Ok (moved.Arrived client)
answer_of (Loses client place op) = Err (record {})
answer_of FindsNoRequest = Ok moved.BlockedRequest
answer_of (Drops client r) = Ok (moved.Drained client)
answer_of FindsNoneLeft = Ok moved.BlockedRequest
answer_of Finishes = Ok moved.Ended

-- memory lacks in it
abbrev pub is_loss : ManagerDeed → Bool
is_loss (Delivers tile g) = false
is_loss (FindsFull tile) = false
is_loss (Grants e) = false
is_loss (Receives client r) = false
is_loss (Loses client place op) = true
is_loss FindsNoRequest = false
is_loss (Drops client r) = false
is_loss FindsNoneLeft = false
is_loss Finishes = false

-- ---- its lanes

-- what it takes of a client
abbrev pub taken_of : ManagerDeed → ℕ → Option Request
taken_of (Delivers tile g) i = None
taken_of (FindsFull tile) i = None
taken_of (Grants e) i = None
taken_of (Receives client r) i = cond (i == client) (Some r) None
taken_of (Loses client place op) i = cond (i == client) (Some (request.Op place op)) None
taken_of FindsNoRequest i = None
taken_of (Drops client r) i = cond (i == client) (Some r) None
taken_of FindsNoneLeft i = None
taken_of Finishes i = None

-- what it appends for a tile
abbrev pub sent_to : ManagerDeed → ℕ → List Grant
sent_to (Delivers tile g) i = cond (i == tile) (g ∷ []) []
sent_to (FindsFull tile) i = []
sent_to (Grants e) i = []
sent_to (Receives client r) i = []
sent_to (Loses client place op) i = []
sent_to FindsNoRequest i = []
sent_to (Drops client r) i = []
sent_to FindsNoneLeft i = []
sent_to Finishes i = []

-- it finds the tile's lane full
abbrev pub IsFoundFull : ManagerDeed → ℕ → Type 0
IsFoundFull (Delivers tile g) i = ⊥
IsFoundFull (FindsFull tile) i = i ≡ tile
IsFoundFull (Grants e) i = ⊥
IsFoundFull (Receives client r) i = ⊥
IsFoundFull (Loses client place op) i = ⊥
IsFoundFull FindsNoRequest i = ⊥
IsFoundFull (Drops client r) i = ⊥
IsFoundFull FindsNoneLeft i = ⊥
IsFoundFull Finishes i = ⊥

-- It finds the client's lane empty: one that it waits for, and that comes before the client that it takes of, if it does.
abbrev pub IsFoundEmpty : SyncLists → ManagerProgress → ManagerDeed → ℕ → Type 0
IsFoundEmpty syncs d (Delivers tile g) i = ⊥
IsFoundEmpty syncs d (FindsFull tile) i = ⊥
IsFoundEmpty syncs d (Grants e) i = ⊥
IsFoundEmpty syncs d (Receives client r) i = IsEarlier d.next client i × (may_arrive syncs d.book i ≡ true)
IsFoundEmpty syncs d (Loses client place op) i = IsEarlier d.next client i × (may_arrive syncs d.book i ≡ true)
IsFoundEmpty syncs d FindsNoRequest i = may_arrive syncs d.book i ≡ true
IsFoundEmpty syncs d (Drops client r) i = IsEarlier d.next client i × (d.drained i ≡ false)
IsFoundEmpty syncs d FindsNoneLeft i = d.drained i ≡ false
IsFoundEmpty syncs d Finishes i = ⊥
