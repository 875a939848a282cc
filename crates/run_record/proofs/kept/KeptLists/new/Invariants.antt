use Rattle.run_record.specs.Gathering.{AreSums}
use Rattle.std.proofs.Common.{[]}
use Rattle.run_record.proofs.kept.KeptLists.new.Given as goal

abbrev pub invariant-loop : goal.invariant-loop
invariant-loop l = AreSums [] l.counter l.tallies.items
