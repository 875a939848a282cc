use Rattle.std.proofs.Common.{◌≡◌, ◌<◌, ◌≤◌, ℕ, max, length, slice_index}
use Rattle.happens_before.proofs.timelines.join.Given as goal

abbrev pub invariant-loop-client : goal.invariant-loop-client
invariant-loop-client l = record {
  slots : length l.into ≡ 8;
  done : (c : ℕ) → c < l.client → slice_index l.into c ≡ max (slice_index l.fn.into c) (slice_index l.other c);
  left : (c : ℕ) → l.client ≤ c → slice_index l.into c ≡ slice_index l.fn.into c;
}
