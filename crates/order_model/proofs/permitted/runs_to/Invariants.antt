use Rattle.std.proofs.Common.{◌≡◌, drop, replicate, length}
use Rattle.order_model.specs.Checked.{runs_to}
use Rattle.order_model.proofs.permitted.runs_to.Given as goal

abbrev pub invariant-loop-name : goal.invariant-loop-name
invariant-loop-name l = (length l.next ≡ 8) × (runs_to l.ends l.next (drop l.name-index l.order) ≡ runs_to l.ends (replicate 8 0) l.order)
