use Rattle.std.proofs.Common.{◌≡◌, true}
use Rattle.race_check.specs.Finds.{AreCounted}
use Rattle.race_check.proofs.found.is_counted.Given as goal

abbrev pub invariant-loop-client : goal.invariant-loop-client
invariant-loop-client l = l.counted ≡ true → AreCounted l.clock l.cell l.client
