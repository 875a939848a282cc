use Rattle.std.proofs.Common.{◌≡◌, ◌<◌, ◌≤◌, ℕ, max, length, slice_index}
use Rattle.race_check.proofs.cells.raise.Given as goal

abbrev pub invariant-loop-client : goal.invariant-loop-client
invariant-loop-client l = record {
  slots : length l.most ≡ 8;
  done : (c : ℕ) → c < l.client → slice_index l.most c ≡ max (slice_index l.fn.most c) (slice_index l.cell c);
  left : (c : ℕ) → l.client ≤ c → slice_index l.most c ≡ slice_index l.fn.most c;
}
