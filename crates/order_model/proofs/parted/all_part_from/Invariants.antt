use Rattle.std.proofs.Common.{◌≡◌, ◌<◌, ℕ, true}
use Rattle.rc_base.specs.Orders.Order.{entries_of}
use Rattle.order_model.specs.Checked.{all_part}
use Rattle.order_model.proofs.parted.all_part_from.Given as goal

abbrev pub invariant-loop-b : goal.invariant-loop-b
invariant-loop-b l = (b : ℕ) → b < l.b → all_part l.order l.a b (entries_of l.syncs l.journal) ≡ true
