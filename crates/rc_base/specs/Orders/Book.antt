-- The book of synchronisation: what it knows of operations that arrive one by one, and when it is over.
use Rattle.std.specs.Prelude.{◌≡◌, ℕ, ◌<◌, ◌==◌, Bool, true, false, cond, List, [], ◌∷◌, ◌++◌, Option, None, is_some}
use Rattle.std.specs.Option.{option_map_or}
use Rattle.rc_base.specs.Lists.{at_name}
use Rattle.rc_base.specs.Orders.Sync.{client_count, count_of, units_of}
use Rattle.rc_base.specs.Orders.Journal.{SyncState, head_wait, end_of, IsLegalFrom, NothingIsLawful}
use Rattle.rc_base.specs.Orders.Grant.{grant}
use Rattle.rc_base.specs.declared.sync.Entry.{Entry}
use Rattle.rc_base.specs.declared.sync.SyncLists.{SyncLists}
use Rattle.rc_base.specs.declared.sync.SyncOp.{SyncOp}
use Rattle.rc_base.specs.declared.sync.SyncOp.TheVariants as op
use Rattle.rc_base.specs.declared.sync.WaitAt.{WaitAt}

-- what arrived of each client, which clients have ended, and the entries that were granted
pub record Book : Type 0 where
  pub arrived : ℕ → List WaitAt
  pub ended : ℕ → Bool
  pub journal : List Entry

abbrev pub new_book : Book
new_book = record { arrived = λ client. []; ended = λ client. false; journal = [] }

-- the machine at first, over what arrived
abbrev pub opened : SyncLists → Book → SyncState
opened syncs b = record { rest = b.arrived; units = units_of syncs }

-- after the entries that were granted: the operations that wait, and the units
abbrev pub standing : SyncLists → Book → SyncState
standing syncs b = end_of syncs (opened syncs b) b.journal

-- the operation at which a client waits
abbrev pub waiting_in : SyncLists → Book → ℕ → Option WaitAt
waiting_in syncs b client = head_wait ((standing syncs b).rest client)

-- the entries were lawful one after the other, by what arrived
abbrev pub IsLegalBook : SyncLists → Book → Type 0
IsLegalBook syncs b = IsLegalFrom syncs (opened syncs b) b.journal

-- the book is over: each client waits or has ended, and no entry is lawful
pub record IsBookOver (syncs : SyncLists) (b : Book) : Type 0 where
  pub all : (client : ℕ) → client < client_count syncs → b.ended client ≡ false → is_some (waiting_in syncs b client) ≡ true
  pub over : NothingIsLawful syncs (standing syncs b)

-- ---- what happens to it

-- an operation arrives, a client ends, or the first lawful entry is granted
pub data BookEvent : Type 0 where
  Arrives : (client : ℕ) (w : WaitAt) → BookEvent
  Ends : (client : ℕ) → BookEvent
  Grants : BookEvent

-- a function with another value at one number
abbrev pub with_at : {A : Type 0} → (ℕ → A) → ℕ → A → ℕ → A
with_at f n x k = cond (k == n) x (f k)

abbrev pub with_entry : Book → Option Entry → Book
with_entry b e = option_map_or (λ e. record b { journal = b.journal ++ e ∷ [] }) e b

abbrev pub book_after : SyncLists → Book → BookEvent → Book
book_after syncs b (Arrives client w) = record b { arrived = with_at b.arrived client (b.arrived client ++ w ∷ []) }
book_after syncs b (Ends client) = record b { ended = with_at b.ended client true }
book_after syncs b Grants = with_entry b (grant syncs (standing syncs b))

-- the operation names what is declared
abbrev pub is_declared : SyncLists → SyncOp → Bool
is_declared syncs (op.Barrier name) = is_some (count_of syncs name)
is_declared syncs (op.SemP name) = is_some (at_name syncs.units name)
is_declared syncs (op.SemV name) = is_some (at_name syncs.units name)
is_declared syncs op.Swap = true

-- an operation arrives, and a client ends, where the client neither waits nor has ended; a grant is always asked for lawfully
abbrev pub MayHappen : SyncLists → Book → BookEvent → Type 0
MayHappen syncs b (Arrives client w) =
    (client < client_count syncs) × (waiting_in syncs b client ≡ None) × (b.ended client ≡ false) × (is_declared syncs w.op ≡ true)
MayHappen syncs b (Ends client) = (client < client_count syncs) × (waiting_in syncs b client ≡ None) × (b.ended client ≡ false)
MayHappen syncs b Grants = Unit {0}

-- the book after lawful events, one after the other
abbrev pub AreEvents : SyncLists → Book → List BookEvent → Type 0
AreEvents syncs b [] = Unit {0}
AreEvents syncs b (e ∷ es) = MayHappen syncs b e × AreEvents syncs (book_after syncs b e) es

abbrev pub book_after_all : SyncLists → Book → List BookEvent → Book
book_after_all syncs b [] = b
book_after_all syncs b (e ∷ es) = book_after_all syncs (book_after syncs b e) es
