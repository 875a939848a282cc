use Rattle.std.proofs.Common.{ℕ, if◌then◌else◌}
use Rattle.rc_base.specs.declared.command.Rgba.{Rgba}
use Rattle.draw_device.specs.Pixels.{color_at, flag_at}
use Rattle.draw_device.specs.Loops.{IsColorRun}
use Rattle.draw_device.proofs.alpha.choose_colors.Given as goal

abbrev pub invariant-loop-x : goal.invariant-loop-x
invariant-loop-x l =
    record {
      done : IsColorRun (λ (k : ℕ) (old : Rgba). if flag_at l.flags k then color_at l.others k else old) l.fn.from l.x l.fn.colors l.colors;
    }
