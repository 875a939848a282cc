use Rattle.std.proofs.Common.{◌≡◌, ◌<◌, ℕ, true}
use Rattle.order_model.specs.Checked.{hands_over}
use Rattle.order_model.proofs.units.all_hand_over.Given as goal

abbrev pub invariant-loop-number : goal.invariant-loop-number
invariant-loop-number l = (semaphore : ℕ) → semaphore < l.number → hands_over l.syncs l.journal l.order semaphore ≡ true
