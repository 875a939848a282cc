use Rattle.std.proofs.Common.{◌≡◌, ◌<◌, ℕ, true}
use Rattle.sync_manager.specs.Cores.{drained_in}
use Rattle.sync_manager.proofs.manager.ManagerCore.rest.Given as goal

abbrev pub invariant-loop-client : goal.invariant-loop-client
invariant-loop-client l = (client : ℕ) → client < l.client → drained_in l.self client ≡ true
