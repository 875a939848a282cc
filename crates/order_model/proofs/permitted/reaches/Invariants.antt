use Rattle.std.proofs.Common.{◌≡◌, ◌<◌, ℕ, length, slice_index}
use Rattle.rc_base.specs.Orders.Journal.{reach_of}
use Rattle.order_model.proofs.permitted.reaches.Given as goal

abbrev pub invariant-loop-client : goal.invariant-loop-client
invariant-loop-client l = (length l.ends ≡ 8) × ((c : ℕ) → c < l.client → slice_index l.ends c ≡ reach_of l.syncs l.journal c)
