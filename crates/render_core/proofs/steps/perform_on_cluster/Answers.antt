use Rattle.std.proofs.Common.{refl, rules}
use Rattle.rc_base.specs.Outside.Ends.{use_of}
use Rattle.rc_base.proofs.WithinLimits.{tiles_within}
use Rattle.run_words.specs.Asked.{layout_for}
use Rattle.render_core.specs.Stored.{work_in}
use Rattle.render_core.proofs.CarriedOut.{refused_before}
use Rattle.render_core.proofs.Recorded.{layout_within, scene_within}
use Rattle.render_core.proofs.StoredWork.{as_work}
use Rattle.render_core.proofs.Threaded.{cluster_asked, read_or_made, run_carried, short_of_memory}
use Rattle.render_core.proofs.steps.perform_on_cluster.Goals as goal

pub returns-in-Err : goal.returns-in-Err
returns-in-Err g c = record {
  carried = refused_before _ _ _ _ _ _ c.in-Err.refusal c.in-Err.ensures.obtained c.without_record.result c.without_record.ensures.refusal c.without_record.ensures.kept refl;
  later_source = search rules;
  later_image = search rules;
}

pub run_work-requires-clause-tiles : goal.run_work-requires-clause-tiles
run_work-requires-clause-tiles g c κs within = c.in-Ok.ensures.obtained.given.sound.tiles c.args.cluster (cluster_asked c.args.job c.args.cluster c.requires.threads)

pub run_work-requires-clause-within : goal.run_work-requires-clause-within
run_work-requires-clause-within g c κs within =
    let sound = c.in-Ok.ensures.obtained.given.sound in
    let scene = (work_in c.in-Ok.work).scene in
    scene_within scene (read_or_made c.args.job c.args.cluster scene c.requires.threads sound.well) sound.within

pub told_run-requires : goal.told_run-requires
told_run-requires g c =
    let scene = (work_in c.in-Ok.work).scene in
    let layout = layout_for c.args.cluster scene in
    let sound = c.in-Ok.ensures.obtained.given.sound in
    let fits = layout_within c.args.cluster scene (sound.tiles c.args.cluster (cluster_asked c.args.job c.args.cluster c.requires.threads)) in
    record {
      scene = scene;
      layout = layout;
      within = sound.within;
      tiles = (tiles_within scene layout c.args.cluster.depth fits).1;
      run = c.in-Ok-run_work.ensures.run;
    }

pub returns-in-Ok-run_work : goal.returns-in-Ok-run_work
returns-in-Ok-run_work g c = record {
  carried =
      let source = use_of g.S.Source.left g.S.Source.faults c.args.source.now c.any_work_for.new.source in
      let image = use_of g.K.Sink.held g.K.Sink.faults c.args.image.now c.run_work.new.image in
      let work = work_in c.in-Ok.work in
      let step = as_work _ _ _ _ c.in-Ok.work c.in-Ok.ensures.obtained in
      let e = c.in-Ok-run_work.ensures in
      let run = c.in-Ok-run_work.ended.run in
      run_carried _ c.args.cluster source image work c.requires.threads step.given.is_work step.given.within c.scene_lists_are_well_formed.ensures c.records_of_scenes.ensures.orders
      (layout_for c.args.cluster work.scene) refl run.kept run.tallies run.waiting run.faults run.written e.run e.written
      c.told_run.result (λ l is. c.told_run.ensures.told work l e.refused e.counted is) _ step.members _ _ step.unread;
  later_source = search rules;
  later_image = search rules;
}

pub returns-in-Err-run_work : goal.returns-in-Err-run_work
returns-in-Err-run_work g c = record {
  carried =
      let source = use_of g.S.Source.left g.S.Source.faults c.args.source.now c.any_work_for.new.source in
      let image = use_of g.K.Sink.held g.K.Sink.faults c.args.image.now c.run_work.new.image in
      let work = work_in c.in-Ok.work in
      let step = as_work _ _ _ _ c.in-Ok.work c.in-Ok.ensures.obtained in
      let refused = c.without_record-in-Err-run_work in
      short_of_memory _ c.args.cluster source image work c.requires.threads step.given.is_work step.given.within c.scene_lists_are_well_formed.ensures c.records_of_scenes.ensures.orders
      (layout_for c.args.cluster work.scene) refl c.in-Err-run_work.ensures.front refused.result refused.ensures.refusal _ step.members _ _ step.unread;
  later_source = search rules;
  later_image = search rules;
}
