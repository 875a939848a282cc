use Rattle.std.proofs.Common.{ℕ, ◌+◌}
use Rattle.rc_base.specs.declared.command.Rgba.{Rgba}
use Rattle.draw_device.specs.Loops.{IsColorRun}
use Rattle.draw_device.proofs.clears.set_eight_colors.Given as goal

abbrev pub invariant-loop-k : goal.invariant-loop-k
invariant-loop-k l =
    record {
      done : IsColorRun (λ (k : ℕ) (old : Rgba). l.fn.color) l.fn.at (l.fn.at + l.k) l.fn.colors l.colors;
    }
