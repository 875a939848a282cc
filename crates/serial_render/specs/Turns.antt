-- Clients that take turns: each issues up to its next operation, then an entry is granted, again and again.
use Rattle.std.specs.Prelude.{◌≡◌, ℕ, ◌<◌, ◌≤◌, true, false, List, [], ◌++◌, length, take, Option, Some, None, slice_index, is_some}
use Rattle.rc_base.specs.Orders.Book.{Book as Arrivals, book_after, waiting_in}
use Rattle.rc_base.specs.Orders.Book.BookEvent.{Arrives, Ends}
use Rattle.rc_base.specs.Orders.Grant.{granted_from, operations_left}
use Rattle.rc_base.specs.Orders.Journal.{stop, sync_state_after, waiting_of}
use Rattle.rc_base.specs.Orders.Order.{names_in, default_journal, default_order}
use Rattle.rc_base.specs.Orders.Sync.{IsWellFormed, client_count, ops_of}
use Rattle.rc_base.specs.declared.sync.Entry.{Entry}
use Rattle.rc_base.specs.declared.sync.SyncLists.{SyncLists}
use Rattle.rc_base.specs.declared.sync.WaitAt.{WaitAt}
use Rattle.sync_manager.specs.Books.{IsBookOf, is_wanted, journal_in}
use Rattle.order_model.specs.Gathering.{AreDeclared}
use Rattle.serial_render.specs.declared.progress.Progress.{Progress}

-- lists of up to 8 clients, whose operations rise and name what is declared
pub record CanTakeTurns (syncs : SyncLists) : Type 0 where
  pub well : IsWellFormed syncs
  pub clients : client_count syncs ≤ 8
  pub barriers : length syncs.counts < 256
  pub declared : AreDeclared syncs

-- a client is left waiting
pub record IsSomeoneLeft (syncs : SyncLists) (journal : List Entry) : Type 0 where
  pub client : ℕ
  pub waits : is_some (waiting_of syncs journal client) ≡ true

-- the client's next operation arrives, or it has ended
abbrev pub told : SyncLists → Arrivals → ℕ → Option WaitAt → Arrivals
told syncs b client (Some w) = book_after syncs b (Arrives client w)
told syncs b client None = book_after syncs b (Ends client)

-- how many operations are left after a journal
abbrev pub left_after : SyncLists → List Entry → ℕ
left_after syncs journal = operations_left (sync_state_after syncs journal).rest (client_count syncs)

-- Of each client its first operations have arrived, all of them where it has ended. The order has its names up to where it stands: where it isn't
-- wanted, that is its next operation by the journal, or the end of its stream.
pub record IsOrderUnderWay (syncs : SyncLists) (p : Progress) : Type 0 where
  pub book : Arrivals
  pub is_book : IsBookOf syncs p.book book
  pub arrivals : length p.arrived ≡ 8
  pub places : length p.issued ≡ 8
  pub front : (client : ℕ) → client < client_count syncs → book.arrived client ≡ take (slice_index p.arrived client) (ops_of syncs client)
  pub beyond : (client : ℕ) → client_count syncs ≤ client → book.arrived client ≡ []
  pub ended : (client : ℕ) → client < client_count syncs → book.ended client ≡ true → length (ops_of syncs client) ≤ slice_index p.arrived client
  pub free : (client : ℕ) → client < client_count syncs → book.ended client ≡ true → waiting_in syncs book client ≡ None
  pub issued : (client : ℕ) → client < client_count syncs → slice_index p.issued client ≡ names_in client p.order
  pub low : (client : ℕ) → client < client_count syncs → slice_index p.issued client ≤ stop syncs (sync_state_after syncs (journal_in p.book)) client
  pub stops : (client : ℕ) → client < client_count syncs → is_wanted p.book client ≡ false
      → slice_index p.issued client ≡ stop syncs (sync_state_after syncs (journal_in p.book)) client

-- so it can go on: there are at most 8 clients, whose operations name what is declared
pub record CanAdvance (syncs : SyncLists) (p : Progress) : Type 0 where
  pub way : IsOrderUnderWay syncs p
  pub clients : client_count syncs ≤ 8
  pub declared : AreDeclared syncs

-- it went on without a grant
pub record StaysUnderWay (syncs : SyncLists) (before after : Progress) : Type 0 where
  pub way : IsOrderUnderWay syncs after
  pub journal : journal_in after.book ≡ journal_in before.book

-- the journal is the front of the default one
pub record IsFrontOfDefault (syncs : SyncLists) (journal : List Entry) : Type 0 where
  pub left : ℕ
  pub is : default_journal syncs ≡ journal ++ granted_from syncs left (sync_state_after syncs journal)
  pub enough : left_after syncs journal ≤ left

-- between two turns each client waits or has ended, and the order is the default one of the journal so far
pub record IsBetweenTurns (syncs : SyncLists) (p : Progress) : Type 0 where
  pub way : IsOrderUnderWay syncs p
  pub settled : (client : ℕ) → client < client_count syncs → is_wanted p.book client ≡ false
  pub order : p.order ≡ default_order syncs (journal_in p.book)
  pub journal : IsFrontOfDefault syncs (journal_in p.book)
