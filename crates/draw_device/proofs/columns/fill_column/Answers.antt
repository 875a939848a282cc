use Rattle.std.proofs.Common.{ℕ, ◌<◌, length, arith, refl}
use Rattle.draw_device.proofs.ColumnsToPixels.{colored_more, colored_none, colored_end, place_below}
use Rattle.draw_device.proofs.columns.fill_column.Goals as goal

pub loop-y-init : goal.loop-y-init
loop-y-init c = record { done = colored_none (λ (k : ℕ). c.args.color) c.args.run c.args.colors.now }

pub loop-y-preserved : goal.loop-y-preserved
loop-y-preserved c =
    let r = c.args.run in
    let y = c.loop-y.y in
    let d = c.loop-y.invariant.done in
    let s = d.size in
    let order = c.requires.run.order in
    let inner = place_below r y _ c.requires.run.inside (omega arith) c.requires.room in
    let at = c.place-at.ensures in
    let bound : c.place-at.result < length c.loop-y.colors = omega (arith, inner, at, s) in
    record {
      done = colored_more (λ (k : ℕ). c.args.color) r y _ _ _ _ c.requires.run.inside d (omega arith) at bound refl;
    }

pub returns : goal.returns
returns c =
    let order = c.requires.run.order in
    let e = c.loop-y.auto.y-end order in
    colored_end (λ (k : ℕ). c.args.color) c.args.run _ _ _ _ (omega arith) c.loop-y.invariant.done
