use Rattle.std.proofs.Common.{◌≡◌, ℕ, length}
use Rattle.draw_device.specs.Pixels.{pixels_of}
use Rattle.draw_device.specs.Shapes.{IsRunStepped, cleared_pixel}
use Rattle.draw_device.proofs.clears.clear_run.Given as goal

abbrev pub invariant-loop-x : goal.invariant-loop-x
invariant-loop-x l =
    record {
      colors : length l.colors ≡ length l.fn.colors;
      depths : length l.depths ≡ length l.fn.depths;
      drawn : (left row : ℕ) → IsRunStepped (cleared_pixel l.setup.state.now l.setup.mask) left row l.fn.from l.x (pixels_of l.fn.colors l.fn.depths) (pixels_of l.colors l.depths);
    }
