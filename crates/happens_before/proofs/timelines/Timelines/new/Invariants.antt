use Rattle.std.proofs.Common.{◌≡◌, ℕ, [], slice_index_or, length}
use Rattle.happens_before.proofs.timelines.Timelines.new.Given as goal

abbrev pub invariant-loop : goal.invariant-loop
invariant-loop l = record {
  count : length l.clients.items ≡ l.counter;
  empty : (c : ℕ) → slice_index_or l.clients.items c [] ≡ [];
}
