use Rattle.std.proofs.Common.{◌≡◌, ◌-◌}
use Rattle.rc_base.specs.Orders.Grant.{first, take_by}
use Rattle.sync_manager.specs.Stored.{op_at, units_at}
use Rattle.sync_manager.proofs.search.first_take.Given as goal

abbrev pub invariant-loop-client : goal.invariant-loop-client
invariant-loop-client l = first (λ c. take_by (units_at l.units) c (op_at l.waiting c)) l.client (l.clients - l.client) ≡ first (λ c. take_by (units_at l.units) c (op_at l.waiting c)) 0 l.clients
