use Rattle.std.proofs.Common.{ℕ}
use Rattle.rc_base.specs.declared.command.Rgba.{Rgba}
use Rattle.rc_base.specs.declared.window.WindowVertex.{WindowVertex}
use Rattle.draw_device.specs.Loops.{IsColorRun, run_fragment, texel_for, IsValueAt}
use Rattle.draw_device.proofs.colors.repeat_colors.Given as goal

abbrev pub invariant-loop-x : goal.invariant-loop-x
invariant-loop-x l =
    record {
      done : IsColorRun (λ (k : ℕ) (old : Rgba). texel_for l.setup.state.now l.setup.texture.now (run_fragment l.setup.tri.now.v l.fn.run k)) l.fn.run.from l.x l.fn.colors l.colors;
      ss : IsValueAt l.setup.tri.now.v l.fn.run (λ (c : WindowVertex). c.s) l.x l.ss;
      ts : IsValueAt l.setup.tri.now.v l.fn.run (λ (c : WindowVertex). c.t) l.x l.ts;
    }
