use Rattle.std.proofs.Common.{ℕ, ◌<◌, get_or, length}
use Rattle.cluster_tests.proofs.managers.are_positive.Given as goal

abbrev pub invariant-loop-count : goal.invariant-loop-count
invariant-loop-count l = (k : ℕ) → k < l.count-index → k < length l.counts → 0 < get_or l.counts k 1
