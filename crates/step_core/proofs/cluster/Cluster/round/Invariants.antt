use Rattle.step_core.specs.Rounds.{IsRoundBelow}
use Rattle.step_core.proofs.cluster.Cluster.round.Given as goal

abbrev pub invariant-loop-number : goal.invariant-loop-number
invariant-loop-number l = IsRoundBelow l.number l.fn.self l.round l.self
