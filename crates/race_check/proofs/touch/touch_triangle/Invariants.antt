use Rattle.std.proofs.Common.{◌≡◌, ◌≤ℤ◌, length}
use Rattle.race_check.specs.Touches.{IsTouch}
use Rattle.race_check.proofs.TouchesInTurn.{rows_below}
use Rattle.race_check.proofs.touch.touch_triangle.Given as goal

abbrev pub invariant-rows : goal.invariant-rows
invariant-rows l = record {
  triangle : l.span-iterator.tri.now ≡ l.tri;
  part : l.span-iterator.rect ≡ l.fn.part;
  from : l.fn.part.y0 ≤ℤ l.span-iterator.y;
  size : length l.pixels.cells.items ≡ length l.fn.pixels.cells.items;
  touched : IsTouch (rows_below l.tri.v l.fn.part l.span-iterator.y) l.visit l.fn.pixels.cells.items l.pixels.cells.items l.fn.seen l.seen;
}
