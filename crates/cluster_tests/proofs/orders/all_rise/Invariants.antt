use Rattle.std.proofs.Common.{ℕ, ◌<◌}
use Rattle.rc_base.specs.Lists.{AreRising}
use Rattle.rc_base.specs.Orders.Sync.{places_of}
use Rattle.cluster_tests.proofs.Looked.{row_at}
use Rattle.cluster_tests.proofs.orders.all_rise.Given as goal

abbrev pub invariant-loop-row : goal.invariant-loop-row
invariant-loop-row l = (c : ℕ) → c < l.row-index → AreRising 0 (places_of (row_at l.rows c).ops) (row_at l.rows c).length
