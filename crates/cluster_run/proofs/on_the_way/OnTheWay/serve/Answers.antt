use Rattle.std.proofs.Common.{◌∙◌, List, length, sym, ap, subst}
use Rattle.rc_base.proofs.Paired.{after_slice}
use Rattle.rc_base.specs.declared.cluster.TilePart.{TilePart}
use Rattle.tile_queues.specs.declared.ends.LaneOut.{LaneOut}
use Rattle.cluster_run.specs.Serving.{HasAdvanced}
use Rattle.cluster_run.proofs.on_the_way.OnTheWay.serve.Goals as goal

pub returns-clause-completed : goal.returns-clause-completed
returns-clause-completed g c =
    let step = c.serve.ensures in
    let old = c.args.self.now.writer in
    let new = c.serve.new.self in
    let lanes = c.args.self.now.lanes in
    let xs' = c.serve.new.lanes in
    let xs_are = c.deref_mut.ensures.value in
    let left = after_slice lanes.len xs' lanes.items lanes.ok.0 (step.lane_of.count ∙ ap length xs_are) in
    subst (λ (ys : List (LaneOut TilePart g.row.R.Denot)). HasAdvanced old lanes.items c.serve.result new ys) (sym left)
    (subst (λ (ys : List (LaneOut TilePart g.row.R.Denot)). HasAdvanced old ys c.serve.result new xs') xs_are step.completed)
