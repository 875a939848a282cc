use Rattle.std.proofs.Common.{◌≡◌, ◌≤ℤ◌}
use Rattle.draw_device.specs.Pixels.{pixels_of}
use Rattle.draw_device.specs.Shapes.{covered_step, IsSteppedBelow}
use Rattle.draw_device.proofs.grid.Grid.draw_rows.Given as goal

abbrev pub invariant-rows : goal.invariant-rows
invariant-rows l =
    record {
      triangle : l.span-iterator.tri.now ≡ l.triangle.tri.now;
      part : l.span-iterator.rect ≡ l.fn.rows.rect;
      from : l.fn.rows.rect.y0 ≤ℤ l.span-iterator.y;
      extent : l.self.extent ≡ l.fn.self.extent;
      drawn : IsSteppedBelow (covered_step l.triangle.state.now l.triangle.texture.now l.triangle.tri.now.v) l.fn.self.extent (pixels_of l.fn.self.colors.items l.fn.self.depths.items) (pixels_of l.self.colors.items l.self.depths.items) l.span-iterator.y;
    }
