use Rattle.std.proofs.Common.{Some, None, ap, sym, subst, ◌∙◌}
use Rattle.std.specs.Prelude.{Option}
use Rattle.frame_out.proofs.Prefixes.{on_err}
use Rattle.tile_queues.specs.Ends.{lane_out, taken_of}
use Rattle.cluster_run.specs.Clusters.{HasRun}
use Rattle.cluster_run.specs.Serving.{IsServed}
use Rattle.cluster_run.specs.declared.on_the_way.OnTheWay.{OnTheWay}
use Rattle.cluster_run.specs.declared.writing.Writing.{Writing}
use Rattle.cluster_run.specs.Workers.{HaveGoneOn}
use Rattle.cluster_run.proofs.Serving.{unserved}
use Rattle.cluster_run.proofs.WorkersTurned.{has_run, have_gone_on}
use Rattle.cluster_run.proofs.writing.run_crew.Goals as goal

given : {A : Type 0} → A → Option A → A
given d (Some x) = x
given d None = d

pub returns-in_err-run_beside-clause-served : goal.returns-in_err-run_beside-clause-served
returns-in_err-run_beside-clause-served g c =
    let frames = c.frames-1.given in
    let image = c.image-1.given in
    let same = c.in_err-run_beside.ensures.lacked in
    let old = c.args.frames.now in
    let frames_are = frames.1 (ap (λ (w : Writing g.row.K.Denot g.row.R.Denot). w.frames.ghost_name) (sym same)) ∙ ap (λ (w : Writing g.row.K.Denot g.row.R.Denot). w.frames.now) same in
    let image_is = image.1 (ap (λ (w : Writing g.row.K.Denot g.row.R.Denot). w.image.ghost_name) (sym same)) ∙ ap (λ (w : Writing g.row.K.Denot g.row.R.Denot). w.image.now) same in
    subst (λ (x : OnTheWay g.row.R.Denot × g.row.K.Denot). IsServed g.K.Sink.held g.K.Sink.faults old c.args.image.now x.0 x.1)
    (λ i. (sym frames_are i, sym image_is i))
    (unserved lane_out taken_of g.K.Sink.held g.K.Sink.faults old.writer old.lanes.items c.args.image.now)

pub returns-in_err-run_beside-clause-untouched : goal.returns-in_err-run_beside-clause-untouched
returns-in_err-run_beside-clause-untouched g c =
    let image = c.image-1.given in
    let same = c.in_err-run_beside.ensures.lacked in
    on_err c.from_residual.result
    (image.1 (ap (λ (w : Writing g.row.K.Denot g.row.R.Denot). w.image.ghost_name) (sym same)) ∙ ap (λ (w : Writing g.row.K.Denot g.row.R.Denot). w.image.now) same)

pub returns-clause-ended : goal.returns-clause-ended
unfolding given
returns-clause-ended g c =
    let did = c.in_ok-run_beside.ensures.run in
    let names = did.2 in
    let keeps = did.4 in
    let kept = c.kept-2-1.given in
    let some = sym c.in-Some.is ∙ kept.1 (sym (keeps.2 ∙ names.2)) ∙ keeps.3 in
    subst (HasRun c.args.crew) (sym (ap (given did.1) some)) (has_run c.args.crew did.1 did.3)

pub returns-clause-turned : goal.returns-clause-turned
unfolding given
returns-clause-turned g c =
    let did = c.in_ok-run_beside.ensures.run in
    let names = did.2 in
    let keeps = did.4 in
    let kept = c.kept-2-1.given in
    let some = sym c.in-Some.is ∙ kept.1 (sym (keeps.2 ∙ names.2)) ∙ keeps.3 in
    subst (HaveGoneOn c.args.crew) (sym (ap (given did.1) some)) (have_gone_on c.args.crew did.1 did.3)

pub returns-clause-served : goal.returns-clause-served
returns-clause-served g c =
    let did = c.in_ok-run_beside.ensures.run in
    let names = did.2 in
    let keeps = did.4 in
    let frames = c.frames-1.given in
    let image = c.image-1.given in
    let old = c.args.frames.now in
    let frames_are = frames.1 (sym (ap (λ b. b.ghost_name) keeps.0 ∙ names.0)) ∙ ap (λ b. b.now) keeps.0 in
    let image_is = image.1 (sym (ap (λ b. b.ghost_name) keeps.1 ∙ names.1)) ∙ ap (λ b. b.now) keeps.1 in
    subst (λ (x : OnTheWay g.row.R.Denot × g.row.K.Denot). IsServed g.K.Sink.held g.K.Sink.faults old c.args.image.now x.0 x.1)
    (λ i. (sym frames_are i, sym image_is i))
    (names.3 old c.args.image.now (unserved lane_out taken_of g.K.Sink.held g.K.Sink.faults old.writer old.lanes.items c.args.image.now))
