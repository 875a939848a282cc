use Rattle.std.proofs.Common.{◌≤◌}
use Rattle.sort_last.specs.Composed.{IsComposing}
use Rattle.sort_last.proofs.compose.Window.compose.Given as goal

abbrev pub invariant-loop-frame : goal.invariant-loop-frame
invariant-loop-frame l = record {
  low : l.batch.first ≤ l.frame;
  composed : IsComposing l.batch l.frame l.self;
}
