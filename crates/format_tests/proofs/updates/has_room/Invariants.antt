use Rattle.std.proofs.Common.{ℕ, ◌+◌, ◌<◌, ◌^◌}
use Rattle.rc_base.specs.Contexts.Context.{edit_of}
use Rattle.format_tests.proofs.updates.has_room.Given as goal

abbrev pub invariant-loop-name : goal.invariant-loop-name
invariant-loop-name l = (k : ℕ) → k < l.name → 0 < k → edit_of l.context k + 1 < 2 ^ 32
