use Rattle.std.proofs.Common.{◌≡◌, ◌≤◌, length}
use Rattle.race_check.specs.Finds.{IsFirst, OrBefore, run_has}
use Rattle.race_check.specs.Touches.{AreTouched, IsFoundWhere}
use Rattle.race_check.proofs.TouchesInTurn.{run_to}
use Rattle.race_check.proofs.marks.touch_pixels.Given as goal

abbrev pub invariant-loop-x : goal.invariant-loop-x
invariant-loop-x l = record {
  from : l.run.from ≤ l.x;
  size : length l.pixels.cells.items ≡ length l.fn.pixels.cells.items;
  cells : AreTouched (run_has (run_to l.run l.x)) l.visit l.fn.pixels.cells.items l.pixels.cells.items;
  best : IsFirst (OrBefore l.fn.best (IsFoundWhere (run_has (run_to l.run l.x)) l.visit l.fn.pixels.cells.items)) l.best;
}
