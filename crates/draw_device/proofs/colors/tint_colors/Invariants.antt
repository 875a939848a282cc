use Rattle.std.proofs.Common.{ℕ}
use Rattle.rc_base.specs.Drawing.PixelStep.{textured}
use Rattle.rc_base.specs.declared.command.Rgba.{Rgba}
use Rattle.draw_device.specs.Loops.{IsColorRun, run_fragment, IsColorAt}
use Rattle.draw_device.proofs.colors.tint_colors.Given as goal

abbrev pub invariant-loop-x : goal.invariant-loop-x
invariant-loop-x l =
    record {
      done : IsColorRun (λ (k : ℕ) (old : Rgba). textured l.state (run_fragment l.tri.v l.fn.run k).color old) l.fn.run.from l.x l.fn.colors l.colors;
      ramp : IsColorAt l.tri.v l.fn.run l.x l.ramp;
    }
