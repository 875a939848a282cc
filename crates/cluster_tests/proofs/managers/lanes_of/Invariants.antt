use Rattle.std.proofs.Common.{◌≡◌, length}
use Rattle.cluster_tests.proofs.managers.lanes_of.Given as goal

abbrev pub invariant-loop-i : goal.invariant-loop-i
invariant-loop-i g l = length l.lanes.items ≡ l.i
