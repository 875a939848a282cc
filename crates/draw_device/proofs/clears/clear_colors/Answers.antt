use Rattle.std.proofs.Common.{ℕ, ◌+◌, arith}
use Rattle.rc_base.specs.declared.command.Rgba.{Rgba}
use Rattle.draw_device.proofs.Steps.{color_none, color_join}
use Rattle.draw_device.proofs.clears.clear_colors.Goals as goal

pub color_blocks-init : goal.color_blocks-init
color_blocks-init c = record { low = omega arith; high = c.requires.order; done = color_none (λ (k : ℕ) (old : Rgba). c.args.color) c.args.from _ }

pub color_blocks-preserved : goal.color_blocks-preserved
color_blocks-preserved c =
    let i = c.color_blocks.invariant in
    let t = c.color_blocks-test.true in
    record {
      low = omega (arith, i.low);
      high = omega (arith, i.high, t);
      done = color_join (λ (k : ℕ) (old : Rgba). c.args.color) c.args.from c.color_blocks.x (c.color_blocks.x + 8) _ _ _ i.low (omega arith) i.done c.set_eight_colors.ensures;
    }

pub returns : goal.returns
returns c =
    let i = c.color_blocks.invariant in
    color_join (λ (k : ℕ) (old : Rgba). c.args.color) c.args.from c.color_blocks.x c.args.to _ _ _ i.low i.high i.done c.fill_colors.ensures
