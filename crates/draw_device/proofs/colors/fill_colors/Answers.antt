use Rattle.std.proofs.Common.{ℕ, arith, refl}
use Rattle.rc_base.specs.declared.command.Rgba.{Rgba}
use Rattle.draw_device.proofs.Steps.{color_more, color_end}
use Rattle.draw_device.proofs.colors.fill_colors.Goals as goal

pub loop-x-preserved : goal.loop-x-preserved
loop-x-preserved c =
    let d = c.loop-x.invariant.done in
    let s = d.size in
    let order = c.requires.order in
    record {
      done = color_more (λ (k : ℕ) (old : Rgba). c.args.color) c.args.from c.loop-x.x _ _ _ d (omega arith) (omega arith) (refl);
    }

pub returns : goal.returns
returns c =
    let order = c.requires.order in
    let e = c.loop-x.auto.x-end order in
    color_end (λ (k : ℕ) (old : Rgba). c.args.color) c.args.from _ c.args.to _ _ (omega arith) c.loop-x.invariant.done
