use Rattle.std.proofs.Common.{◌≡◌, ◌<◌, ℕ, true}
use Rattle.rc_base.specs.Orders.Order.{entries_of}
use Rattle.rc_base.specs.Orders.Sync.{client_count}
use Rattle.order_model.specs.Checked.{all_part}
use Rattle.order_model.proofs.parted.entries_part.Given as goal

abbrev pub invariant-loop-a : goal.invariant-loop-a
invariant-loop-a l = (a b : ℕ) → a < l.a → b < client_count l.syncs → all_part l.order a b (entries_of l.syncs l.journal) ≡ true
