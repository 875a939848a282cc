use Rattle.std.proofs.Common.{◌<◌, ◌+◌, length, ap, ◌∙◌, subst, arith, get_or-set_other, length-append, ◌∷◌, ◌++◌, []}
use Rattle.std.proofs.Math.ListN.{length-set}
use Rattle.tile_queues.specs.Grids.{IsAdded}
use Rattle.rc_base.proofs.Paired.{each_row, same_default}
use Rattle.tile_queues.proofs.making.lane_row.Goals as goal

pub loop-t-preserved : goal.loop-t-preserved
loop-t-preserved g c =
    let was = c.loop-t.invariant in
    let t = c.loop-t.t in
    let os = c.args.outs.now in
    let ys = c.loop-t.outs in
    let y = c.add_lane.new.outs in
    let a = c.in_ok-add_lane.field-0 in
    let grown = c.in_ok-push.ensures.items in
    let test = c.loop-t-test.true in
    let low : t < length ys = omega arith in
    record {
      size = length-set ys t y ∙ was.size;
      row = ap length {y = c.loop-t.row.items ++ a ∷ []} grown ∙ length-append c.loop-t.row.items (a ∷ []) ∙ ap (λ n. n + 1) was.row;
      added = each_row (λ a x y. IsAdded c.args.depth a x y) c.loop-t.row.items c.push.new.self.items a os ys t y was.row grown low was.added
          (λ d. subst (λ x. IsAdded c.args.depth a x y) (same_default ys t c.index-outs-t.result d low ∙ was.later t d (omega arith)) c.in_ok-add_lane.ensures);
      later = λ k d above. get_or-set_other ys t k y d (λ e. absurd (omega (arith, e, above))) ∙ was.later k d (omega arith);
    }
