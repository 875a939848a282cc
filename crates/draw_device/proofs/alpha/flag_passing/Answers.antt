use Rattle.std.proofs.Common.{ℕ, arith}
use Rattle.fragment_ops.specs.AlphaTests.{keeps_alpha}
use Rattle.draw_device.specs.Pixels.{color_at}
use Rattle.draw_device.proofs.Steps.{flag_more, flag_end}
use Rattle.draw_device.proofs.alpha.flag_passing.Goals as goal

pub loop-x-preserved : goal.loop-x-preserved
loop-x-preserved c =
    let d = c.loop-x.invariant.done in
    let s = d.size in
    let order = c.requires.order in
    record {
      done = flag_more (λ (k : ℕ). keeps_alpha c.args.test (color_at c.args.colors.now k).a) c.args.from c.loop-x.x _ _ _ d (omega arith) (omega arith) c.passes.ensures;
    }

pub returns : goal.returns
returns c =
    let order = c.requires.order in
    let e = c.loop-x.auto.x-end order in
    flag_end (λ (k : ℕ). keeps_alpha c.args.test (color_at c.args.colors.now k).a) c.args.from _ c.args.to _ _ (omega arith) c.loop-x.invariant.done
