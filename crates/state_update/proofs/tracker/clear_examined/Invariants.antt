use Rattle.std.specs.Prelude.{nat_lt}
use Rattle.state_update.proofs.Clearing.{AreCleared}
use Rattle.state_update.proofs.tracker.clear_examined.Given as goal

abbrev pub invariant-loop-element : goal.invariant-loop-element
invariant-loop-element l = AreCleared l.fn.dirty l.dirty l.tile (λ e. nat_lt e l.element)
