use Rattle.draw_device.specs.Loops.{IsDepthAt, IsHidden}
use Rattle.draw_device.proofs.hidden.first_passing.Given as goal

abbrev pub invariant-loop-x : goal.invariant-loop-x
invariant-loop-x l =
    record {
      hidden : IsHidden l.setup.state.now l.setup.tri.now.v l.fn.run l.x l.depths;
      ramp : IsDepthAt l.setup.tri.now.v l.fn.run l.x l.ramp;
    }
