use Rattle.std.proofs.Common.{◌<◌, ◌≤◌, ℕ, []}
use Rattle.std.specs.Prelude.{slice_index, slice_index_or}
use Rattle.race_check.proofs.cells.Cells.greatest.Given as goal

abbrev pub invariant-loop-index : goal.invariant-loop-index
invariant-loop-index l = record {
  from : l.fn.range.from ≤ l.index;
  done : (d i : ℕ) → l.fn.range.from ≤ i → i < l.index → slice_index (slice_index_or l.self.cells.items i []) d ≤ slice_index l.most d;
}
