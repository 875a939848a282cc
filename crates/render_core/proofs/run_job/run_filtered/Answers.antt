use Rattle.std.proofs.Common.{◌≡◌, ◌≤◌, arith, map, refl, subst}
use Rattle.std.specs.Prelude.{string_bytes}
use Rattle.rc_base.specs.Outside.Ends.{use_of}
use Rattle.run_words.specs.Jobs.{AskFiltered}
use Rattle.render_core.proofs.BehindFilters.{line_of, named_ready}
use Rattle.render_core.proofs.Endings.{same_filtered}
use Rattle.render_core.proofs.Finished.{task_ended, unasked_ended}
use Rattle.render_core.proofs.run_job.run_filtered.Goals as goal

pub returns-in-Err : goal.returns-in-Err
returns-in-Err g c =
    let notes = use_of g.N.Sink.held g.N.Sink.faults c.args.notes.now c.job_behind.new.notes in
    let ended =
    unasked_ended c.findings_are_one.ensures c.ordered_records_show_one_image.ensures c.records_are_foreseen.ensures (AskFiltered c.args.words.now)
    (same_filtered c.lines_have_one_reading.ensures c.leading_words_have_one_reading.ensures.one c.args.words.now) (use_of g.S.Source.left g.S.Source.faults c.args.source.now c.args.source.now)
    (use_of g.K.Sink.held g.K.Sink.faults c.args.image.now c.args.image.now) (c.args.source.now ≡ c.args.source.now)
    (c.args.image.now ≡ c.args.image.now) c.in-Err.finish notes (c.job_behind.new.notes ≡ c.args.notes.now) _
    (c.in-Err.ensures.none) refl refl
    in
    record {
      headline = ended.headline;
      ran = ended.ran;
      refuses = ended.refuses;
      completes = ended.completes;
      permitted = ended.permitted;
      usage = c.in-Err.ensures.usage;
      unread = ended.unread;
      untouched = ended.untouched;
      blank = ended.blank;
      memory = ended.memory;
      silent = ended.silent;
      members = ended.members;
      later_source = omega arith;
      later_image = omega arith;
      later_notes = c.job_behind.ensures.later;
    }

pub returns : goal.returns
returns g c =
    let ended =
    task_ended c.findings_are_one.ensures c.ordered_records_show_one_image.ensures c.records_are_foreseen.ensures (AskFiltered c.args.words.now)
    (same_filtered c.lines_have_one_reading.ensures c.leading_words_have_one_reading.ensures.one c.args.words.now) (use_of g.S.Source.left g.S.Source.faults c.args.source.now c.perform_any-performed.new.source)
    (use_of g.K.Sink.held g.K.Sink.faults c.args.image.now c.perform_any-performed.new.image) _ _ c.finish_of.result
    g.N.Sink.held g.N.Sink.faults c.args.notes.now _ c.finish_of.new.notes c.in-Ok.ensures.unnoted _ (c.in-Ok.ensures.asked _ c.requires.named) _ c.perform_any-performed.result
    c.perform_any-performed.ensures.carried c.finish_of.ensures.finished c.finish_of.ensures.silent
    in
    record {
      headline = ended.headline;
      ran = ended.ran;
      refuses = ended.refuses;
      completes = ended.completes;
      permitted = ended.permitted;
      usage = λ none other. absurd (other (line_of c.args.words.now _ ((c.plain_tasks_are_filtered_ones.ensures c.args.words.now _).1 (c.in-Ok.ensures.asked _ c.requires.named, none))));
      unread = ended.unread;
      untouched = ended.untouched;
      blank = ended.blank;
      memory = ended.memory;
      silent = ended.silent;
      members = ended.members;
      later_source = c.perform_any-performed.ensures.later_source;
      later_image = c.perform_any-performed.ensures.later_image;
      later_notes = subst (λ n. g.N.Sink.faults n ≤ g.N.Sink.faults c.finish_of.new.notes) c.in-Ok.ensures.unnoted c.finish_of.ensures.later;
    }

pub perform_any-performed-requires-clause-ready : goal.perform_any-performed-requires-clause-ready
perform_any-performed-requires-clause-ready g c κs within = named_ready c.named_rules_begin.ensures (map string_bytes c.args.words.now) _ c.requires.named
