use Rattle.std.proofs.Common.{refl, rules}
use Rattle.rc_base.specs.Outside.Ends.{use_of}
use Rattle.render_core.proofs.CarriedOut.{before_filters, of_source}
use Rattle.render_core.proofs.steps.work_for.Goals as goal

pub returns-in-Ok : goal.returns-in-Ok
returns-in-Ok g c = record {
  obtained =
      let source = use_of g.S.Source.left g.S.Source.faults c.args.source.now c.meaning_for.new.source in
      of_source _ source _ _ _ (c.work_behind.ensures source c.in-Ok.ensures.came) c.meaning_for.ensures.unread;
  later = search rules;
}

pub returns-in-Err : goal.returns-in-Err
returns-in-Err g c = record {
  obtained = before_filters _ _ _ _ c.in-Err.refusal (c.in-Err.ensures.refused _ refl) c.in-Err.ensures.early refl c.meaning_for.ensures.unread;
  later = search rules;
}
