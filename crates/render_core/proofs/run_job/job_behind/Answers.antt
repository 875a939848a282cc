use Rattle.std.proofs.Common.{inl, map, refl, subst, sym}
use Rattle.std.specs.Prelude.{IfErr, IfOk, IsNone, string_bytes}
use Rattle.rc_base.specs.Outside.Ends.{use_of}
use Rattle.render_core.specs.Finishes.{IsJobless}
use Rattle.run_words.specs.Jobs.{IsJob}
use Rattle.render_core.proofs.BehindFilters.{asked_behind, none_behind, rest_is, some_named, unnamed_asks, usage_behind}
use Rattle.render_core.proofs.run_job.job_behind.Goals as goal

pub returns-in-Ok-Some-clause-asked : goal.returns-in-Ok-Some-clause-asked
returns-in-Ok-Some-clause-asked g c =
    let laws = c.leading_words_have_one_reading.ensures in
    asked_behind laws.one laws.none c.args.words.now _ _ (some_named (map string_bytes c.args.words.now) c.in-Ok-Some.field-0 _ c.in-Ok-Some.field-0-is c.in-Ok-Some.ensures.some) c.job_for.result
    (subst (λ ws. IfOk c.job_for.result (IsJob ws)) (rest_is c.in-Ok-Some.count c.args.words.now) c.job_for.ensures.job)

pub returns-in-Ok-Some-clause-none : goal.returns-in-Ok-Some-clause-none
returns-in-Ok-Some-clause-none g c =
    let laws = c.leading_words_have_one_reading.ensures in
    let notes = use_of g.N.Sink.held g.N.Sink.faults c.args.notes.now c.job_for.new.notes in
    none_behind laws.one laws.none c.args.words.now _ _ (some_named (map string_bytes c.args.words.now) c.in-Ok-Some.field-0 _ c.in-Ok-Some.field-0-is c.in-Ok-Some.ensures.some) notes c.job_for.result
    (subst (λ ws. IfErr c.job_for.result (IsJobless ws notes)) (rest_is c.in-Ok-Some.count c.args.words.now) c.job_for.ensures.none)

pub returns-in-Ok-None-clause-none : goal.returns-in-Ok-None-clause-none
returns-in-Ok-None-clause-none g c =
    let laws = c.leading_words_have_one_reading.ensures in
    record {
      unkept = c.end_unasked.ensures.ended.1;
      why = inl (c.end_unasked.ensures.ended.0, unnamed_asks laws.one laws.none c.args.words.now (c.in-Ok-None.ensures.none.0 (subst IsNone (sym c.in-Ok-None.field-0-is) refl)), c.end_unasked.ensures.ended.2);
    }

pub returns-in-Ok-Some-clause-usage : goal.returns-in-Ok-Some-clause-usage
returns-in-Ok-Some-clause-usage g c =
    let notes = use_of g.N.Sink.held g.N.Sink.faults c.args.notes.now c.job_for.new.notes in
    usage_behind c.leading_words_have_one_reading.ensures.one c.lines_begin_no_filter.ensures.empty c.args.words.now _ _ (some_named (map string_bytes c.args.words.now) c.in-Ok-Some.field-0 _ c.in-Ok-Some.field-0-is c.in-Ok-Some.ensures.some) notes c.job_for.result
    (subst (λ ws. IfErr c.job_for.result (IsJobless ws notes)) (rest_is c.in-Ok-Some.count c.args.words.now) c.job_for.ensures.none)
