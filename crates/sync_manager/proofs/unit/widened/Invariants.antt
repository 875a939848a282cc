use Rattle.std.proofs.Common.{◌≡◌, ◌≤◌, ℕ, take, slice_index_or}
use Rattle.sync_manager.proofs.unit.widened.Given as goal

abbrev pub invariant-loop-n : goal.invariant-loop-n
invariant-loop-n l = (l.wide.items ≡ take l.n-index l.units) × ((k : ℕ) → slice_index_or l.wide.items k 0 ≤ 65535)
