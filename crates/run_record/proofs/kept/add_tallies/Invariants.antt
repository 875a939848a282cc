use Rattle.run_record.specs.Kept.{AreAddedBelow}
use Rattle.run_record.proofs.kept.add_tallies.Given as goal

abbrev pub invariant-loop-tile : goal.invariant-loop-tile
invariant-loop-tile l = AreAddedBelow l.tile l.fn.sums l.more l.sums
