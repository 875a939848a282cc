use Rattle.std.proofs.Common.{◌≡◌, ◌+◌, pos, length}
use Rattle.raster.specs.EdgeRamps.{IsEdgeRamp}
use Rattle.draw_device.specs.Pixels.{pixels_of}
use Rattle.draw_device.specs.Shapes.{IsRunStepped, tried_pixel}
use Rattle.draw_device.proofs.shade.try_run.Given as goal

abbrev pub invariant-loop-x : goal.invariant-loop-x
invariant-loop-x l =
    record {
      colors : length l.colors ≡ length l.fn.colors;
      depths : length l.depths ≡ length l.fn.depths;
      drawn : IsRunStepped (tried_pixel l.setup.state.now l.setup.texture.now l.setup.tri.now.v) l.setup.extent.left l.fn.row l.fn.from l.x (pixels_of l.fn.colors l.fn.depths) (pixels_of l.colors l.depths);
      edges : IsEdgeRamp l.corners.v (pos (l.setup.extent.left + l.x)) (pos l.fn.row) l.edges;
    }
