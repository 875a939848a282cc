use Rattle.std.proofs.Common.{◌≡◌, ◌≤◌}
use Rattle.rc_base.specs.Orders.Journal.{how_many, has}
use Rattle.sync_manager.proofs.search.members_below.Given as goal

abbrev pub invariant-loop-client : goal.invariant-loop-client
invariant-loop-client l = (l.n ≤ l.client) × (l.n ≡ how_many (has l.members) l.client)
