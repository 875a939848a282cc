use Rattle.std.proofs.Common.{ℕ, ◌+◌, arith, refl}
use Rattle.rc_base.specs.declared.command.Rgba.{Rgba}
use Rattle.draw_device.proofs.Steps.{color_none, color_more, color_end}
use Rattle.draw_device.proofs.clears.set_eight_colors.Goals as goal

pub loop-k-init : goal.loop-k-init
loop-k-init c =
    let at = c.args.at in
    record { done = color_end (λ (k : ℕ) (old : Rgba). c.args.color) at at (at + 0) _ _ (omega arith) (color_none (λ (k : ℕ) (old : Rgba). c.args.color) at _) }

pub loop-k-preserved : goal.loop-k-preserved
loop-k-preserved c =
    let at = c.args.at in
    let k = c.loop-k.k in
    let d = c.loop-k.invariant.done in
    let s = d.size in
    let room = c.requires.room in
    record {
      done = color_end (λ (k : ℕ) (old : Rgba). c.args.color) at (at + k + 1) (at + (k + 1)) _ _ (omega arith)
          (color_more (λ (k : ℕ) (old : Rgba). c.args.color) at (at + k) _ _ _ d (omega arith) (omega arith) refl);
    }

pub returns : goal.returns
returns c =
    let e = c.loop-k.auto.k-end in
    color_end (λ (k : ℕ) (old : Rgba). c.args.color) c.args.at (c.args.at + c.loop-k.k) (c.args.at + 8) _ _ (omega arith) c.loop-k.invariant.done
