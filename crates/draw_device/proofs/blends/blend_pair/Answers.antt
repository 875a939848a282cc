use Rattle.std.proofs.Common.{◌≡◌, ℕ, ◌∙◌, ap, arith, subst, sym}
use Rattle.fragment_ops.specs.Blends.{IsBlending, mixed_color}
use Rattle.fragment_ops.specs.declared.factor.Factor.{Factor}
use Rattle.rc_base.specs.declared.command.Rgba.{Rgba}
use Rattle.draw_device.specs.Pixels.{color_at}
use Rattle.draw_device.proofs.Steps.{color_more, color_end}
use Rattle.draw_device.proofs.blends.blend_pair.Goals as goal

pub loop-x-preserved : goal.loop-x-preserved
loop-x-preserved g c =
    let x = c.loop-x.x in
    let d = c.loop-x.invariant.done in
    let s = d.size in
    let order = c.requires.columns.order in
    let was = d.after x (omega arith) in
    let state = c.args.blending.now.state.now in
    let source : c.factor_named-source.result ≡ c.args.blending.now.first = c.factor_named-source.ensures.named ∙ sym c.requires.first in
    let kept : c.factor_named-kept.result ≡ c.args.blending.now.second = c.factor_named-kept.ensures.named ∙ sym c.requires.second in
    let kind = subst (λ (f : Factor). IsBlending state f c.factor_named-kept.result) (sym source)
    (subst (IsBlending state c.args.blending.now.first) (sym kept) c.args.blending.now.kind) in
    record {
      done = color_more (λ (k : ℕ) (old : Rgba). mixed_color c.args.blending.now.state.now old (color_at c.args.stored.now k)) c.args.from x _ _ _ d (omega arith) (omega arith)
          (c.blend_by.ensures.mixed c.args.blending.now.state.now kind ∙ ap (λ (z : Rgba). mixed_color c.args.blending.now.state.now z (color_at c.args.stored.now x)) was);
    }

pub returns : goal.returns
returns g c =
    let order = c.requires.columns.order in
    let e = c.loop-x.auto.x-end order in
    color_end (λ (k : ℕ) (old : Rgba). mixed_color c.args.blending.now.state.now old (color_at c.args.stored.now k)) c.args.from _ c.args.to _ _ (omega arith) c.loop-x.invariant.done
