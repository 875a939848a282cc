use Rattle.std.proofs.Common.{◌≡◌, ◌≤◌}
use Rattle.rc_base.specs.Orders.Journal.{how_many}
use Rattle.rc_base.specs.Orders.Grant.{is_at_swap}
use Rattle.sync_manager.specs.Stored.{op_at}
use Rattle.sync_manager.proofs.search.waiting_to_swap.Given as goal

abbrev pub invariant-loop-client : goal.invariant-loop-client
invariant-loop-client l = (l.n ≤ l.client) × (l.n ≡ how_many (λ c. is_at_swap (op_at l.waiting c)) l.client)
