use Rattle.std.proofs.Common.{◌≡◌, ◌+◌, pos}
use Rattle.rc_base.specs.Drawing.PixelStep.{clear_step}
use Rattle.draw_device.specs.Pixels.{pixels_of}
use Rattle.draw_device.specs.Shapes.{IsSteppedBelow}
use Rattle.draw_device.proofs.grid.Grid.clear.Given as goal

abbrev pub invariant-loop-row : goal.invariant-loop-row
invariant-loop-row l =
    record {
      extent : l.self.extent ≡ l.fn.self.extent;
      drawn : IsSteppedBelow (clear_step l.state l.mask) l.fn.self.extent (pixels_of l.fn.self.colors.items l.fn.self.depths.items) (pixels_of l.self.colors.items l.self.depths.items) (pos (l.fn.self.extent.bottom + l.row));
    }
