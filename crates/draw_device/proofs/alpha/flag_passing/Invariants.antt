use Rattle.std.proofs.Common.{ℕ}
use Rattle.fragment_ops.specs.AlphaTests.{keeps_alpha}
use Rattle.draw_device.specs.Pixels.{color_at}
use Rattle.draw_device.specs.Loops.{IsFlagRun}
use Rattle.draw_device.proofs.alpha.flag_passing.Given as goal

abbrev pub invariant-loop-x : goal.invariant-loop-x
invariant-loop-x l =
    record {
      done : IsFlagRun (λ (k : ℕ). keeps_alpha l.fn.test (color_at l.colors k).a) l.fn.from l.x l.fn.flags l.flags;
    }
