use Rattle.std.proofs.Common.{ℕ, ◌+◌, ◌<◌, length, pos, arith}
use Rattle.draw_device.specs.Columns.{column_fragment}
use Rattle.draw_device.proofs.ColumnsToPixels.{colored_more, colored_none, colored_end, place_below, rise_moved}
use Rattle.draw_device.proofs.columns.step_column.Goals as goal

pub loop-y-init : goal.loop-y-init
loop-y-init c = record { done = colored_none (λ (k : ℕ). (column_fragment c.args.tri.now.v c.args.run k).color) c.args.run c.args.colors.now; ramp = c.requires.ramp }

pub loop-y-preserved : goal.loop-y-preserved
loop-y-preserved c =
    let r = c.args.run in
    let v = c.args.tri.now.v in
    let y = c.loop-y.y in
    let d = c.loop-y.invariant.done in
    let s = d.size in
    let order = c.requires.run.order in
    let inner = place_below r y _ c.requires.run.inside (omega arith) c.requires.room in
    let at = c.place-at.ensures in
    let bound : c.place-at.result < length c.loop-y.colors = omega (arith, inner, at, s) in
    record {
      done = colored_more (λ (k : ℕ). (column_fragment v r k).color) r y _ _ _ _ c.requires.run.inside d (omega arith) at bound c.color_up.ensures;
      ramp = rise_moved v r y _ (c.advance.ensures.up v (pos (r.left + r.across)) (pos (r.bottom + y)) (1 + r.across + y) c.loop-y.invariant.ramp);
    }

pub returns : goal.returns
returns c =
    let order = c.requires.run.order in
    let e = c.loop-y.auto.y-end order in
    colored_end (λ (k : ℕ). (column_fragment c.args.tri.now.v c.args.run k).color) c.args.run _ _ _ _ (omega arith) c.loop-y.invariant.done

pub color_up-requires-clause-inside : goal.color_up-requires-clause-inside
color_up-requires-clause-inside c = c.requires.covered c.loop-y.y (omega arith) (omega arith)

pub color_up-requires-clause-few : goal.color_up-requires-clause-few
color_up-requires-clause-few c = let few = c.requires.run.few in omega arith
