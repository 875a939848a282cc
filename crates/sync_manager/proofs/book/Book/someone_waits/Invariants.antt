use Rattle.std.proofs.Common.{◌≡◌, ◌<◌, ℕ, None}
use Rattle.sync_manager.specs.Stored.{wait_at}
use Rattle.sync_manager.proofs.book.Book.someone_waits.Given as goal

abbrev pub invariant-loop-client : goal.invariant-loop-client
invariant-loop-client l = (c : ℕ) → c < l.client → wait_at l.self.waiting c ≡ None
