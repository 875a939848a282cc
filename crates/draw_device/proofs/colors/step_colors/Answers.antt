use Rattle.std.proofs.Common.{ℕ, ◌+◌, pos, arith}
use Rattle.rc_base.specs.declared.command.Rgba.{Rgba}
use Rattle.draw_device.specs.Loops.{run_fragment}
use Rattle.draw_device.proofs.Runs.{reached}
use Rattle.draw_device.proofs.Steps.{color_more, color_end, color_moved}
use Rattle.draw_device.proofs.colors.step_colors.Goals as goal

pub loop-x-preserved : goal.loop-x-preserved
loop-x-preserved c =
    let r = c.args.run in
    let d = c.loop-x.invariant.done in
    let s = d.size in
    let order = c.args.run.order in
    record {
      done = color_more (λ (k : ℕ) (old : Rgba). (run_fragment c.args.tri.now.v c.args.run k).color) r.from c.loop-x.x _ _ _ d (omega arith) (omega arith) (c.color_by.ensures);
      ramp = color_moved _ r.left c.loop-x.x r.row r.up _ (c.advance.ensures.across c.args.tri.now.v (pos (r.left + c.loop-x.x)) (pos r.row) (1 + c.loop-x.x + r.up) c.loop-x.invariant.ramp);
    }

pub returns : goal.returns
returns c =
    let order = c.args.run.order in
    let e = c.loop-x.auto.x-end order in
    color_end (λ (k : ℕ) (old : Rgba). (run_fragment c.args.tri.now.v c.args.run k).color) c.args.run.from _ c.args.run.to _ _ (omega arith) c.loop-x.invariant.done

pub color_by-requires-clause-place : goal.color_by-requires-clause-place
color_by-requires-clause-place c = reached c.args.tri.now.v c.args.run c.loop-x.x c.requires.covered (omega arith) (omega arith)
