use Rattle.std.proofs.Common.{ℕ, ◌∙◌, ap, arith, if◌then◌else◌}
use Rattle.rc_base.specs.declared.command.Rgba.{Rgba}
use Rattle.draw_device.specs.Pixels.{color_at, flag_at}
use Rattle.draw_device.proofs.Steps.{color_more, color_end}
use Rattle.draw_device.proofs.alpha.choose_colors.Goals as goal

pub loop-x-preserved : goal.loop-x-preserved
loop-x-preserved c =
    let x = c.loop-x.x in
    let d = c.loop-x.invariant.done in
    let s = d.size in
    let order = c.requires.columns.order in
    let was = d.after x (omega arith) in
    record {
      done = color_more (λ (k : ℕ) (old : Rgba). if flag_at c.args.flags.now k then color_at c.args.others.now k else old) c.args.from x _ _ _ d (omega arith) (omega arith)
          (c.chosen.ensures ∙ ap (λ (z : Rgba). if flag_at c.args.flags.now x then color_at c.args.others.now x else z) was);
    }

pub returns : goal.returns
returns c =
    let order = c.requires.columns.order in
    let e = c.loop-x.auto.x-end order in
    color_end (λ (k : ℕ) (old : Rgba). if flag_at c.args.flags.now k then color_at c.args.others.now k else old) c.args.from _ c.args.to _ _ (omega arith) c.loop-x.invariant.done
