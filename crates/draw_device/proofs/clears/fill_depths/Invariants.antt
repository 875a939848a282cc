use Rattle.draw_device.specs.Loops.{IsDepthRun}
use Rattle.draw_device.proofs.clears.fill_depths.Given as goal

abbrev pub invariant-loop-x : goal.invariant-loop-x
invariant-loop-x l =
    record {
      done : IsDepthRun l.fn.depth l.fn.from l.x l.fn.depths l.depths;
    }
