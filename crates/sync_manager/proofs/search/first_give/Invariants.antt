use Rattle.std.proofs.Common.{◌≡◌, ◌-◌}
use Rattle.rc_base.specs.Orders.Grant.{first, give_by}
use Rattle.sync_manager.specs.Stored.{op_at}
use Rattle.sync_manager.proofs.search.first_give.Given as goal

abbrev pub invariant-loop-client : goal.invariant-loop-client
invariant-loop-client l = first (λ c. give_by c (op_at l.waiting c)) l.client (l.clients - l.client) ≡ first (λ c. give_by c (op_at l.waiting c)) 0 l.clients
