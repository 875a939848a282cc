use Rattle.std.proofs.Common.{ℕ}
use Rattle.fragment_ops.specs.Blends.{masked_by}
use Rattle.rc_base.specs.declared.command.Rgba.{Rgba}
use Rattle.draw_device.specs.Pixels.{color_at}
use Rattle.draw_device.specs.Loops.{IsColorRun}
use Rattle.draw_device.proofs.blends.mask_colors.Given as goal

abbrev pub invariant-loop-x : goal.invariant-loop-x
invariant-loop-x l =
    record {
      done : IsColorRun (λ (k : ℕ) (old : Rgba). masked_by l.fn.flags old (color_at l.stored k)) l.fn.from l.x l.fn.colors l.colors;
    }
