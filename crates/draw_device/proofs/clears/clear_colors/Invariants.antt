use Rattle.std.proofs.Common.{ℕ, ◌≤◌, ◌-◌}
use Rattle.rc_base.specs.declared.command.Rgba.{Rgba}
use Rattle.draw_device.specs.Loops.{IsColorRun}
use Rattle.draw_device.proofs.clears.clear_colors.Given as goal

abbrev pub invariant-color_blocks : goal.invariant-color_blocks
invariant-color_blocks l =
    record {
      low : l.fn.from ≤ l.x;
      high : l.x ≤ l.to;
      done : IsColorRun (λ (k : ℕ) (old : Rgba). l.fn.color) l.fn.from l.x l.fn.colors l.colors;
    }

abbrev pub decreases-color_blocks : goal.decreases-color_blocks
decreases-color_blocks l = l.to - l.x
