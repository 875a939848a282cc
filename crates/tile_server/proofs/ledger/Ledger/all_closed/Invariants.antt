use Rattle.std.proofs.Common.{◌≡◌, ◌<◌, ℕ, true}
use Rattle.tile_server.specs.Ledgers.{closed_in}
use Rattle.tile_server.proofs.ledger.Ledger.all_closed.Given as goal

abbrev pub invariant-loop-client : goal.invariant-loop-client
invariant-loop-client l = (client : ℕ) → client < l.client → closed_in l.self client ≡ true
