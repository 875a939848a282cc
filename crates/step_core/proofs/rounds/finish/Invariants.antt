use Rattle.step_core.specs.Rounds.{IsOnTheWay}
use Rattle.step_core.proofs.rounds.finish.Given as goal

abbrev pub invariant-loop : goal.invariant-loop
invariant-loop l = IsOnTheWay l.fn.world l.counter l.cluster
