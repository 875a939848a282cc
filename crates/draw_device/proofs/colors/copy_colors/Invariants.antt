use Rattle.std.proofs.Common.{ℕ}
use Rattle.rc_base.specs.declared.command.Rgba.{Rgba}
use Rattle.draw_device.specs.Pixels.{color_at}
use Rattle.draw_device.specs.Loops.{IsColorRun}
use Rattle.draw_device.proofs.colors.copy_colors.Given as goal

abbrev pub invariant-loop-x : goal.invariant-loop-x
invariant-loop-x l =
    record {
      done : IsColorRun (λ (k : ℕ) (old : Rgba). color_at l.others k) l.fn.from l.x l.fn.colors l.colors;
    }
