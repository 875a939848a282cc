use Rattle.std.proofs.Common.{◌+◌, length, sym, ap, ◌∙◌, subst, arith}
use Rattle.tile_queues.specs.Grids.{IsNewGrid}
use Rattle.rc_base.proofs.Paired.{after_slice}
use Rattle.tile_queues.proofs.Grids.{more_row}
use Rattle.tile_queues.proofs.making.lane_grid.Goals as goal

pub loop-preserved : goal.loop-preserved
loop-preserved g c =
    let was = c.loop.invariant in
    let depth = c.args.depth in
    let n = c.loop.counter in
    let m = c.args.receivers in
    let outs = c.loop.outs in
    let xs = c.deref_mut.result.now in
    let xs' = c.lane_row.new.outs in
    let row = c.in_ok-row.row in
    let is = c.deref_mut.ensures.value in
    let same = c.lane_row.ensures.size ∙ ap length is in
    let left = after_slice outs.len xs' outs.items outs.ok.0 same in
    let begins = subst (λ l. IsNewGrid depth n m c.loop.ins.items l) (sym is) was in
    let step = more_row depth n m c.loop.ins.items c.push.new.self.items row xs xs' c.in_ok-push.ensures.items
    (c.in_ok-row.ensures.row ∙ begins.columns) c.lane_row.ensures.size
    (λ t a d low. c.in_ok-row.ensures.added t a d (let w = begins.columns in omega arith)) begins in
    subst (λ l. IsNewGrid depth (n + 1) m c.push.new.self.items l) (sym left) step

pub returns : goal.returns
returns g c =
    let test = c.loop-test.false in
    let end = c.loop.auto.counter-end in
    subst (λ n. IsNewGrid c.args.depth n c.args.receivers c.loop.ins.items c.loop.outs.items) (omega arith) c.loop.invariant
