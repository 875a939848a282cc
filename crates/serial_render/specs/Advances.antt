-- How clients that take turns go on: what one of them or all of them issue, and what an entry that is granted changes.
use Rattle.std.specs.Prelude.{◌≡◌, ℕ, ◌+◌, ◌<◌, cond, Option, slice_index}
use Rattle.rc_base.specs.Orders.Book.{Book as Arrivals}
use Rattle.rc_base.specs.Orders.Journal.{stop, sync_state_after}
use Rattle.rc_base.specs.Orders.Order.{names_in}
use Rattle.rc_base.specs.Orders.Sync.{client_count}
use Rattle.rc_base.specs.declared.sync.SyncLists.{SyncLists}
use Rattle.rc_base.specs.declared.sync.WaitAt.{WaitAt}
use Rattle.sync_manager.specs.Books.{IsBookOf, is_wanted, journal_in}
use Rattle.sync_manager.specs.declared.book.Book.{Book}
use Rattle.serial_render.specs.Turns.{told}
use Rattle.serial_render.specs.declared.progress.Progress.{Progress}

-- the book was told of the client's next operation, or of its end
abbrev pub IsTold : ℕ → Option WaitAt → Book → Book → Type 0
IsTold client next before after = (syncs : SyncLists) (b : Arrivals) → IsBookOf syncs before b → IsBookOf syncs after (told syncs b client next)

-- where each client stops by the journal: at its next operation, or at the end of its stream
abbrev pub stop_in : SyncLists → Progress → ℕ → ℕ
stop_in syncs p = stop syncs (sync_state_after syncs (journal_in p.book))

-- of each client one name more is counted where it was wanted, and as many as before where it wasn't
abbrev pub GoOnByOne : SyncLists → Progress → Progress → Type 0
GoOnByOne syncs before after =
    (c : ℕ) → c < client_count syncs → slice_index after.issued c ≡ slice_index before.issued c + cond (is_wanted before.book c) 1 0

-- of each client as many names are counted as the order has
abbrev pub CountsNames : SyncLists → Progress → Type 0
CountsNames syncs p = (c : ℕ) → c < client_count syncs → slice_index p.issued c ≡ names_in c p.order
