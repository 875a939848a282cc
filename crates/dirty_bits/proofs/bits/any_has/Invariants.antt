use Rattle.std.proofs.Common.{◌≡◌, ◌-◌, ◌≤◌, false}
use Rattle.std.specs.List.{range_with_len, list_any}
use Rattle.dirty_bits.specs.Bits.{is_dirty}
use Rattle.dirty_bits.proofs.bits.any_has.Given as goal

abbrev pub invariant-loop-place : goal.invariant-loop-place
invariant-loop-place l = record {
  low : l.start ≤ l.place;
  none : list_any (λ e. is_dirty l.words e l.server) (range_with_len l.start (l.place - l.start)) ≡ false;
}
