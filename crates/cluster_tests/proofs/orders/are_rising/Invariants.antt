use Rattle.std.proofs.Common.{drop}
use Rattle.rc_base.specs.Lists.{AreRising}
use Rattle.rc_base.specs.Orders.Sync.{places_of}
use Rattle.cluster_tests.proofs.orders.are_rising.Given as goal

abbrev pub invariant-loop-wait : goal.invariant-loop-wait
invariant-loop-wait l = AreRising l.from (places_of (drop l.wait-index l.ops)) l.length → AreRising 0 (places_of l.ops) l.length
