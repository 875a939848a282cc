use Rattle.std.proofs.Common.{◌≡◌, ◌+◌, ◌≤◌, ℕ, length, drop, slice_index}
use Rattle.order_model.specs.Checked.{takes_in}
use Rattle.order_model.proofs.units.takes_of.Given as goal

abbrev pub invariant-loop-entry : goal.invariant-loop-entry
invariant-loop-entry l = record {
  room : length l.takes ≡ 256;
  most : (semaphore : ℕ) → slice_index l.takes semaphore ≤ l.entry-index;
  takes : (semaphore : ℕ) → slice_index l.takes semaphore + takes_in semaphore (drop l.entry-index l.journal) ≡ takes_in semaphore l.journal;
}
