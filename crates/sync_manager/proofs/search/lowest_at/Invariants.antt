use Rattle.std.proofs.Common.{◌≡◌}
use Rattle.rc_base.specs.Orders.Grant.{is_at_barrier, lowest}
use Rattle.sync_manager.specs.Stored.{op_at}
use Rattle.sync_manager.proofs.search.lowest_at.Given as goal

abbrev pub invariant-loop-client : goal.invariant-loop-client
invariant-loop-client l = l.members ≡ lowest (λ c. is_at_barrier l.barrier (op_at l.waiting c)) l.count l.client
