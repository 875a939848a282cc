use Rattle.std.proofs.Common.{◌≡◌, ◌+◌, pos}
use Rattle.draw_device.specs.Pixels.{pixels_of}
use Rattle.draw_device.specs.Shapes.{covered_step, IsSteppedBelow}
use Rattle.draw_device.proofs.grid.Grid.draw_few.Given as goal

abbrev pub invariant-loop-up : goal.invariant-loop-up
invariant-loop-up l =
    record {
      extent : l.self.extent ≡ l.fn.self.extent;
      drawn : IsSteppedBelow (covered_step l.block.state.now l.block.texture.now l.tri.v) l.fn.self.extent (pixels_of l.fn.self.colors.items l.fn.self.depths.items) (pixels_of l.self.colors.items l.self.depths.items) (pos (l.fn.self.extent.bottom + l.up));
    }
