use Rattle.std.proofs.Common.{◌≤◌, ◌-◌}
use Rattle.draw_device.specs.Loops.{IsDepthRun}
use Rattle.draw_device.proofs.clears.clear_depths.Given as goal

abbrev pub invariant-depth_blocks : goal.invariant-depth_blocks
invariant-depth_blocks l =
    record {
      low : l.fn.from ≤ l.x;
      high : l.x ≤ l.to;
      done : IsDepthRun l.fn.depth l.fn.from l.x l.fn.depths l.depths;
    }

abbrev pub decreases-depth_blocks : goal.decreases-depth_blocks
decreases-depth_blocks l = l.to - l.x
