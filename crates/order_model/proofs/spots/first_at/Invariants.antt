use Rattle.std.proofs.Common.{◌≤◌}
use Rattle.order_model.specs.Checked.{first_at}
use Rattle.order_model.proofs.spots.first_at.Given as goal

abbrev pub invariant-loop-spot : goal.invariant-loop-spot
invariant-loop-spot l = l.spot ≤ first_at l.order l.client l.place
