use Rattle.std.proofs.Common.{◌≡◌, ◌<◌, ℕ, length, true, slice_index_or}
use Rattle.sync_manager.specs.Books.{is_wanted}
use Rattle.sync_manager.proofs.manager.ManagerCore.wanted.Given as goal

abbrev pub invariant-loop-client : goal.invariant-loop-client
invariant-loop-client l = (length l.asks ≡ 8) × ((client : ℕ) → client < l.client → slice_index_or l.asks client true ≡ is_wanted l.self.book client)
