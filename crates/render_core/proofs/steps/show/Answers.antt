use Rattle.rc_base.specs.Outside.Ends.{use_of}
use Rattle.render_core.specs.Refusals.{due_text, outcome_of}
use Rattle.render_core.proofs.Performing.{front_of, if_untold, late_untold, partly_written, told_done, told_either}
use Rattle.frame_out.proofs.Prefixes.{on_err}
use Rattle.render_core.proofs.steps.show.Goals as goal

pub returns-in-Ok-clause-done : goal.returns-in-Ok-clause-done
returns-in-Ok-clause-done g c = λ task source due.
    let image = use_of g.K.Sink.held g.K.Sink.faults c.args.image.now c.write_due.new.image in
    told_done task source image (outcome_of c.args.due) due c.in-Ok.written c.in-Ok.ensures.written c.told_of.result
    (told_either task source image (outcome_of c.args.due) due c.in-Ok.written c.in-Ok.ensures.written c.told_of.result c.told_of.ensures.told c.told_of.ensures.untold)

pub returns-in-Ok-clause-refused : goal.returns-in-Ok-clause-refused
returns-in-Ok-clause-refused g c = λ task source due.
    let image = use_of g.K.Sink.held g.K.Sink.faults c.args.image.now c.write_due.new.image in
    if_untold task source image (outcome_of c.args.due) due c.in-Ok.written c.in-Ok.ensures.written c.told_of.result c.told_of.ensures.untold

pub returns-in-Ok-clause-part : goal.returns-in-Ok-clause-part
returns-in-Ok-clause-part g c = λ task source due.
    let image = use_of g.K.Sink.held g.K.Sink.faults c.args.image.now c.write_due.new.image in
    on_err c.told_of.result (partly_written task source image (outcome_of c.args.due) due (front_of image (due_text c.args.due.image) c.in-Ok.written c.in-Ok.ensures.written))

pub returns-in-Ok-clause-late : goal.returns-in-Ok-clause-late
returns-in-Ok-clause-late g c = late_untold _ _ _ c.told_of.result c.told_of.ensures.untold
