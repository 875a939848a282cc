use Rattle.std.proofs.Common.{◌≡◌, ◌<◌, ◌≤◌, ◌⊎◌, ℕ, true}
use Rattle.std.specs.Prelude.{slice_index}
use Rattle.race_check.proofs.found.is_either_counted.Given as goal

abbrev pub invariant-loop-client : goal.invariant-loop-client
invariant-loop-client l =
    l.counted ≡ true → (d : ℕ) → d < l.client → (slice_index l.one d ≤ slice_index l.clock d) ⊎ (slice_index l.other d ≤ slice_index l.clock d)
