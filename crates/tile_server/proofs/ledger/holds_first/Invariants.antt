use Rattle.std.proofs.Common.{◌≡◌, ◌<◌, ℕ, true, false, slice_index_or}
use Rattle.tile_server.proofs.ledger.holds_first.Given as goal

abbrev pub invariant-loop-client : goal.invariant-loop-client
invariant-loop-client l = (client : ℕ) → client < l.client → slice_index_or l.held client false ≡ true
