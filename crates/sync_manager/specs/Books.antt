-- What a book stands for.
use Rattle.std.specs.Prelude.{◌≡◌, ℕ, ◌<◌, ◌&&◌, not, Bool, true, false, is_some, List, Option, length, slice_index_or}
use Rattle.rc_base.specs.Orders.Book.{Book as Arrivals, BookEvent, book_after, new_book, standing, waiting_in, is_declared, IsLegalBook, IsBookOver}
use Rattle.rc_base.specs.Orders.Sync.{client_count}
use Rattle.rc_base.specs.declared.scene.Decl.{Decl}
use Rattle.rc_base.specs.declared.sync.Entry.{Entry}
use Rattle.rc_base.specs.declared.sync.SyncLists.{SyncLists}
use Rattle.rc_base.specs.declared.sync.SyncOp.{SyncOp}
use Rattle.rc_base.specs.declared.sync.WaitAt.{WaitAt}
use Rattle.sync_manager.specs.Stored.{grant_at, wait_at, state_of, is_named}
use Rattle.sync_manager.specs.declared.book.Book.{Book}

-- how many clients it is for
abbrev pub clients_in : Book → ℕ
clients_in kept = kept.clients

-- the operation at which the client waits
abbrev pub waiting_at : Book → ℕ → Option WaitAt
waiting_at kept client = wait_at kept.waiting client

-- the operation names a barrier or a semaphore that is declared
abbrev pub names_declared : Book → SyncOp → Bool
names_declared kept op = is_named (length kept.counts) (length kept.units.items) op

-- the first lawful entry, by what it stores
abbrev pub first_in : Book → Option Entry
first_in kept = grant_at kept.counts kept.units.items kept.waiting kept.clients

-- the entries that it granted
abbrev pub journal_in : Book → List Entry
journal_in kept = kept.entries.items

-- the client has ended
abbrev pub has_ended : Book → ℕ → Bool
has_ended kept client = slice_index_or kept.ended client false

-- the client neither waits nor has ended
abbrev pub is_wanted : Book → ℕ → Bool
is_wanted kept client = not (has_ended kept client) && not (is_some (wait_at kept.waiting client))

-- each client that hasn't ended waits
abbrev pub AllWaitOrEnded : Book → Type 0
AllWaitOrEnded kept = (client : ℕ) → client < kept.clients → has_ended kept client ≡ false → is_some (wait_at kept.waiting client) ≡ true

-- the book is over, and a client waits
pub record IsStuck (syncs : SyncLists) (b : Arrivals) : Type 0 where
  pub over : IsBookOver syncs b
  pub client : ℕ
  pub waits : is_some (waiting_in syncs b client) ≡ true

-- The book stands for what arrived, who has ended and what was granted: its journal is legal by what arrived, and what isn't used yet waits.
pub record IsBookOf (syncs : SyncLists) (kept : Book) (b : Arrivals) : Type 0 where
  pub counts : kept.counts ≡ syncs.counts
  pub clients : kept.clients ≡ client_count syncs
  pub declared : (op : SyncOp) → is_named (length kept.counts) (length kept.units.items) op ≡ is_declared syncs op
  pub state : standing syncs b ≡ state_of kept.waiting kept.units.items
  pub ended : (client : ℕ) → client < kept.clients → has_ended kept client ≡ b.ended client
  pub journal : kept.entries.items ≡ b.journal
  pub legal : IsLegalBook syncs b

-- something is so whatever the book stands for
abbrev pub OfBook : Book → (SyncLists → Arrivals → Type 0) → Type 0
OfBook kept is_so = (syncs : SyncLists) (b : Arrivals) → IsBookOf syncs kept b → is_so syncs b

-- the book stands for that after the event
abbrev pub IsBookAfter : Book → BookEvent → Book → Type 0
IsBookAfter before event after = OfBook before (λ syncs b. IsBookOf syncs after (book_after syncs b event))

-- nothing arrived in the book, of so many clients, with barriers and units as they are declared
abbrev pub IsNewBook : Decl → ℕ → Book → Type 0
IsNewBook decl clients kept =
    (syncs : SyncLists) → client_count syncs ≡ clients → syncs.counts ≡ decl.barriers → syncs.units ≡ decl.semaphores → IsBookOf syncs kept new_book
