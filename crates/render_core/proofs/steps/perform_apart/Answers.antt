use Rattle.std.proofs.Common.{refl, rules}
use Rattle.rc_base.specs.Outside.Ends.{use_of}
use Rattle.render_core.proofs.CarriedOut.{refused_before, shown}
use Rattle.render_core.proofs.steps.perform_apart.Goals as goal

pub returns-in-Ok : goal.returns-in-Ok
returns-in-Ok g c = record {
  carried =
      let source = use_of g.S.Source.left g.S.Source.faults c.args.source.now c.due_apart.new.source in
      let due = c.in-Ok.ensures.obtained.given.is_due in
      shown _ source _ _ _ _ c.in-Ok.due c.in-Ok.ensures.obtained c.show.result (c.show.ensures.done _ source due) (c.show.ensures.refused _ source due)
      (c.show.ensures.part _ source due) c.show.ensures.blank c.show.ensures.late;
  later_source = search rules;
  later_image = search rules;
}

pub returns-in-Err : goal.returns-in-Err
returns-in-Err g c = record {
  carried = refused_before _ _ _ _ _ _ c.in-Err.refusal c.in-Err.ensures.obtained c.without_record.result c.without_record.ensures.refusal c.without_record.ensures.kept refl;
  later_source = search rules;
  later_image = search rules;
}
