use Rattle.format_tests.specs.Told.{AreTold}
use Rattle.format_tests.proofs.updates.done.Given as goal

abbrev pub invariant-loop-deed : goal.invariant-loop-deed
invariant-loop-deed g l = AreTold l.client.tracker l.client.context
