use Rattle.std.proofs.Common.{◌≡◌, ℕ, ◌<◌, [], length, slice_index_or}
use Rattle.happens_before.specs.Timelines.{IsLeft, no_semaphore}
use Rattle.happens_before.proofs.walk.Walk.new.Given as goal

abbrev pub invariant-loop-name : goal.invariant-loop-name
invariant-loop-name l = record {
  count : length l.semaphores.items ≡ l.name;
  units : (name : ℕ) → name < l.name → IsLeft l.syncs [] name (slice_index_or l.semaphores.items name no_semaphore);
}
