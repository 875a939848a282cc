use Rattle.std.proofs.Common.{◌≡◌, ◌<◌, ℕ, false}
use Rattle.sync_manager.specs.Books.{is_wanted}
use Rattle.sync_manager.proofs.book.Book.all_wait.Given as goal

abbrev pub invariant-loop-client : goal.invariant-loop-client
invariant-loop-client l = (c : ℕ) → c < l.client → is_wanted l.self c ≡ false
