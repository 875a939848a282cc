use Rattle.std.proofs.Common.{◌≡◌, ◌<◌, ℕ, true, false, slice_index_or}
use Rattle.rc_base.specs.Orders.Journal.{has}
use Rattle.tile_server.proofs.ledger.holds_set.Given as goal

abbrev pub invariant-loop-client : goal.invariant-loop-client
invariant-loop-client l = (client : ℕ) → client < l.client → has l.members client ≡ true → slice_index_or l.held client false ≡ true
