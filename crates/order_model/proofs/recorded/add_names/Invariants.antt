use Rattle.std.proofs.Common.{◌≡◌, ◌++◌, ◌-◌}
use Rattle.rc_base.specs.Orders.Order.{names_from}
use Rattle.order_model.proofs.recorded.add_names.Given as goal

abbrev pub invariant-loop-place : goal.invariant-loop-place
invariant-loop-place l = l.order ++ names_from l.client l.place (l.below - l.place) ≡ l.fn.order ++ names_from l.client l.from (l.below - l.from)
