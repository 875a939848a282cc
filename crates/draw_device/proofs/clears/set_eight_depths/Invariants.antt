use Rattle.std.proofs.Common.{◌+◌}
use Rattle.draw_device.specs.Loops.{IsDepthRun}
use Rattle.draw_device.proofs.clears.set_eight_depths.Given as goal

abbrev pub invariant-loop-k : goal.invariant-loop-k
invariant-loop-k l =
    record {
      done : IsDepthRun l.fn.depth l.fn.at (l.fn.at + l.k) l.fn.depths l.depths;
    }
