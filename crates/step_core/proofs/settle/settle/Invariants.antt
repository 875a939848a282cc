use Rattle.step_core.specs.Settling.{AreSettledBelow}
use Rattle.step_core.proofs.settle.settle.Given as goal

abbrev pub invariant-loop-client : goal.invariant-loop-client
invariant-loop-client l = AreSettledBelow l.client l.tile l.fn.ports l.ports l.lanes
