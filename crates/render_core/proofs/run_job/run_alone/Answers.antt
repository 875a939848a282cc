use Rattle.std.proofs.Common.{◌≡◌, ◌≤◌, arith, [], refl, subst}
use Rattle.rc_base.specs.Outside.Ends.{use_of}
use Rattle.run_words.specs.Jobs.{AskPlainly, task_of}
use Rattle.render_core.proofs.BehindFilters.{empty_ready, line_of, no_rules}
use Rattle.render_core.proofs.Endings.{same_task}
use Rattle.render_core.proofs.Finished.{task_ended, unasked_ended}
use Rattle.render_core.proofs.Finishing.{jobless_usage, taskless}
use Rattle.render_core.proofs.run_job.run_alone.Goals as goal

pub returns-in-Err : goal.returns-in-Err
returns-in-Err g c =
    let notes = use_of g.N.Sink.held g.N.Sink.faults c.args.notes.now c.job_for.new.notes in
    let ended =
    unasked_ended c.findings_are_one.ensures c.ordered_records_show_one_image.ensures c.records_are_foreseen.ensures (AskPlainly c.args.words.now)
    (same_task c.lines_have_one_reading.ensures c.args.words.now) (use_of g.S.Source.left g.S.Source.faults c.args.source.now c.args.source.now)
    (use_of g.K.Sink.held g.K.Sink.faults c.args.image.now c.args.image.now) (c.args.source.now ≡ c.args.source.now)
    (c.args.image.now ≡ c.args.image.now) c.in-Err.finish notes (c.job_for.new.notes ≡ c.args.notes.now) []
    (taskless c.args.words.now [] notes c.in-Err.finish c.in-Err.ensures.none) refl refl
    in
    record {
      headline = ended.headline;
      ran = ended.ran;
      refuses = ended.refuses;
      completes = ended.completes;
      permitted = ended.permitted;
      usage = jobless_usage c.args.words.now notes c.in-Err.finish c.in-Err.ensures.none;
      unread = ended.unread;
      untouched = ended.untouched;
      blank = ended.blank;
      memory = ended.memory;
      silent = ended.silent;
      later_source = omega arith;
      later_image = omega arith;
      later_notes = c.job_for.ensures.later;
    }

pub returns : goal.returns
returns g c =
    let ended =
    task_ended c.findings_are_one.ensures c.ordered_records_show_one_image.ensures c.records_are_foreseen.ensures (AskPlainly c.args.words.now)
    (same_task c.lines_have_one_reading.ensures c.args.words.now) (use_of g.S.Source.left g.S.Source.faults c.args.source.now c.perform-performed.new.source)
    (use_of g.K.Sink.held g.K.Sink.faults c.args.image.now c.perform-performed.new.image) _ _ c.finish_of.result
    g.N.Sink.held g.N.Sink.faults c.args.notes.now _ c.finish_of.new.notes c.in-Ok.ensures.unnoted _ (no_rules _ _ c.new-chain.ensures.items, c.in-Ok.ensures.job) _ c.perform-performed.result
    c.perform-performed.ensures.carried c.finish_of.ensures.finished c.finish_of.ensures.silent
    in
    record {
      headline = ended.headline;
      ran = ended.ran;
      refuses = ended.refuses;
      completes = ended.completes;
      permitted = ended.permitted;
      usage = λ other. absurd (other (line_of c.args.words.now (task_of [] _) (refl, c.in-Ok.ensures.job)));
      unread = ended.unread;
      untouched = ended.untouched;
      blank = ended.blank;
      memory = ended.memory;
      silent = ended.silent;
      later_source = c.perform-performed.ensures.later_source;
      later_image = c.perform-performed.ensures.later_image;
      later_notes = subst (λ n. g.N.Sink.faults n ≤ g.N.Sink.faults c.finish_of.new.notes) c.in-Ok.ensures.unnoted c.finish_of.ensures.later;
    }

pub perform-performed-requires-clause-ready : goal.perform-performed-requires-clause-ready
perform-performed-requires-clause-ready g c = empty_ready _ _ c.new-chain.ensures.items
