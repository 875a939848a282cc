use Rattle.std.proofs.Common.{ℕ}
use Rattle.rc_base.specs.Drawing.PixelStep.{written_color}
use Rattle.rc_base.specs.declared.command.Rgba.{Rgba}
use Rattle.draw_device.specs.Pixels.{color_at}
use Rattle.draw_device.specs.Loops.{IsColorRun}
use Rattle.draw_device.proofs.blends.over_colors.Given as goal

abbrev pub invariant-loop-x : goal.invariant-loop-x
invariant-loop-x l =
    record {
      done : IsColorRun (λ (k : ℕ) (old : Rgba). written_color l.state old (color_at l.stored k)) l.fn.from l.x l.fn.colors l.colors;
    }
