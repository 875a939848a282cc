use Rattle.std.proofs.Common.{◌≡◌, ◌+◌, ◌^◌, ◌<◌, ℕ, length, slice_index, Some}
use Rattle.order_model.specs.Checked.{place_by}
use Rattle.happens_before.specs.Timelines.{places_in}
use Rattle.happens_before.proofs.walk.places.Given as goal

abbrev pub invariant-loop-client : goal.invariant-loop-client
invariant-loop-client l = record {
  slots : length l.places ≡ 8;
  places : (c : ℕ) → c < l.client → places_in l.places c ≡ place_by l.syncs l.entry c (slice_index l.used c);
  small : (c p : ℕ) → places_in l.places c ≡ Some p → p + 1 < 2 ^ 32;
}
