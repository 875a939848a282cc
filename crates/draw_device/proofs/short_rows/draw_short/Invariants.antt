use Rattle.std.proofs.Common.{◌≡◌, length}
use Rattle.draw_device.specs.Pixels.{pixels_of}
use Rattle.draw_device.specs.Shapes.{IsRunStepped, fragment_pixel}
use Rattle.draw_device.specs.Loops.{IsDepthAt}
use Rattle.draw_device.specs.Shades.{AreShades}
use Rattle.draw_device.proofs.short_rows.draw_short.Given as goal

abbrev pub invariant-loop-x : goal.invariant-loop-x
invariant-loop-x l =
    record {
      colors : length l.colors ≡ length l.fn.colors;
      depths : length l.depths ≡ length l.fn.depths;
      drawn : IsRunStepped (fragment_pixel l.setup.state.now l.setup.texture.now l.setup.tri.now.v) l.fn.run.left l.fn.run.row l.fn.run.from l.x (pixels_of l.fn.colors l.fn.depths) (pixels_of l.colors l.depths);
      ramp : IsDepthAt l.setup.tri.now.v l.fn.run l.x l.ramp;
      shades : AreShades l.setup.state.now l.setup.texture.now l.setup.tri.now.v l.fn.run l.x l.shades;
    }
