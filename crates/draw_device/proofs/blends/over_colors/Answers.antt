use Rattle.std.proofs.Common.{ℕ, ◌∙◌, ap, arith}
use Rattle.rc_base.specs.Drawing.PixelStep.{written_color}
use Rattle.rc_base.specs.declared.command.Rgba.{Rgba}
use Rattle.draw_device.specs.Pixels.{color_at}
use Rattle.draw_device.proofs.Steps.{color_more, color_end}
use Rattle.draw_device.proofs.blends.over_colors.Goals as goal

pub loop-x-preserved : goal.loop-x-preserved
loop-x-preserved c =
    let x = c.loop-x.x in
    let d = c.loop-x.invariant.done in
    let s = d.size in
    let order = c.requires.columns.order in
    let was = d.after x (omega arith) in
    record {
      done = color_more (λ (k : ℕ) (old : Rgba). written_color c.args.state.now old (color_at c.args.stored.now k)) c.args.from x _ _ _ d (omega arith) (omega arith)
          (c.blend_over.ensures.written c.args.state.now c.requires.kind ∙ ap (λ (z : Rgba). written_color c.args.state.now z (color_at c.args.stored.now x)) was);
    }

pub returns : goal.returns
returns c =
    let order = c.requires.columns.order in
    let e = c.loop-x.auto.x-end order in
    color_end (λ (k : ℕ) (old : Rgba). written_color c.args.state.now old (color_at c.args.stored.now k)) c.args.from _ c.args.to _ _ (omega arith) c.loop-x.invariant.done
