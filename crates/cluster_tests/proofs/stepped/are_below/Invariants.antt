use Rattle.std.proofs.Common.{ℕ, ◌<◌}
use Rattle.std.specs.Prelude.{slice_index}
use Rattle.cluster_tests.proofs.stepped.are_below.Given as goal

abbrev pub invariant-loop-pick : goal.invariant-loop-pick
invariant-loop-pick l = (k : ℕ) → k < l.pick-index → slice_index l.picks k < l.count
