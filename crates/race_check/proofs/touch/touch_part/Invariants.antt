use Rattle.std.proofs.Common.{◌≡◌, ◌≤◌, length}
use Rattle.race_check.specs.Touches.{IsTouch}
use Rattle.race_check.proofs.TrianglesBeside.{rows_up_to}
use Rattle.race_check.proofs.touch.touch_part.Given as goal

abbrev pub invariant-loop-row : goal.invariant-loop-row
invariant-loop-row l = record {
  from : l.run.row ≤ l.row;
  size : length l.pixels.cells.items ≡ length l.fn.pixels.cells.items;
  touched : IsTouch (rows_up_to l.run l.row) l.visit l.fn.pixels.cells.items l.pixels.cells.items l.fn.seen l.seen;
}
