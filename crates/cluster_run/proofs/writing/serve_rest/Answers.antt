use Rattle.std.proofs.Common.{◌≡◌, List, length, sym, ap, subst, ◌∙◌}
use Rattle.rc_base.proofs.Paired.{after_slice}
use Rattle.rc_base.specs.Cluster.Tiles.{tile_count}
use Rattle.rc_base.specs.declared.cluster.TilePart.{TilePart}
use Rattle.frame_out.specs.OnTheWay.{IsMissing}
use Rattle.tile_queues.specs.Ends.{sent_in, taken_in}
use Rattle.tile_queues.specs.declared.ends.Rest.{Rest}
use Rattle.cluster_run.specs.Serving.{HasAdvancedByRests, HasServed}
use Rattle.cluster_run.proofs.Serving.{rests_served, served_again}
use Rattle.cluster_run.proofs.writing.serve_rest.Goals as goal

pub returns-clause-room : goal.returns-clause-room
returns-clause-room g c =
    let step = c.serve.ensures in
    let rests = c.args.rests.now in
    let xs' = c.serve.new.lanes in
    let count = step.lane_of.count ∙ ap length c.deref_mut.ensures.value in
    ap length (after_slice rests.len xs' rests.items rests.ok.0 count) ∙ count ∙ c.requires ∙ sym (ap tile_count step.layout)

pub returns-clause-served : goal.returns-clause-served
returns-clause-served g c = λ w first start h.
    let held = g.K.Sink.held in
    let faults = g.K.Sink.faults in
    let step = c.serve.ensures in
    let rests = c.args.rests.now in
    let old = c.args.writer.now in
    let new = c.serve.new.self in
    let image = c.args.image.now in
    let image' = c.serve.new.image in
    let xs = c.deref_mut.result.now in
    let xs' = c.serve.new.lanes in
    let xs_are = c.deref_mut.ensures.value in
    let left = after_slice rests.len xs' rests.items rests.ok.0 (step.lane_of.count ∙ ap length xs_are) in
    let one = rests_served held faults old new image image' step.layout step.later xs xs' step.each step.goes_on in
    served_again sent_in taken_in held faults w first start old rests.items image new _ image' h
    (subst (λ (ys : List (Rest TilePart g.row.R.Denot)). HasServed sent_in taken_in held faults old rests.items image new ys image') (sym left)
    (subst (λ (ys : List (Rest TilePart g.row.R.Denot)). HasServed sent_in taken_in held faults old ys image new xs' image') xs_are one))

pub returns-clause-missing : goal.returns-clause-missing
returns-clause-missing g c = λ none ample.
    let step = c.serve.ensures in
    let rests = c.args.rests.now in
    let xs' = c.serve.new.lanes in
    let left = after_slice rests.len xs' rests.items rests.ok.0 (step.lane_of.count ∙ ap length c.deref_mut.ensures.value) in
    subst (λ (ys : List (Rest TilePart g.row.R.Denot)). IsMissing (λ r. taken_in r ≡ sent_in r) c.serve.new.self ys) (sym left) (step.missing none ample)

pub returns-clause-completed : goal.returns-clause-completed
returns-clause-completed g c =
    let step = c.serve.ensures in
    let rests = c.args.rests.now in
    let old = c.args.writer.now in
    let new = c.serve.new.self in
    let xs' = c.serve.new.lanes in
    let xs_are = c.deref_mut.ensures.value in
    let left = after_slice rests.len xs' rests.items rests.ok.0 (step.lane_of.count ∙ ap length xs_are) in
    subst (λ (ys : List (Rest TilePart g.row.R.Denot)). HasAdvancedByRests old rests.items c.serve.result new ys) (sym left)
    (subst (λ (ys : List (Rest TilePart g.row.R.Denot)). HasAdvancedByRests old ys c.serve.result new xs') xs_are step.completed)
