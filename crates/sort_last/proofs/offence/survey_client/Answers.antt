use Rattle.std.proofs.Common.{◌≡◌, ◌<◌, ◌∙◌, length, ap, sym, arith, subst}
use Rattle.rc_base.specs.Contexts.Issue.{stream_of}
use Rattle.rc_base.proofs.WithinLimits.{short_streams}
use Rattle.serial_render.specs.Surveyed.{survey_after}
use Rattle.serial_render.specs.declared.client_survey.ClientSurvey.{ClientSurvey}
use Rattle.sort_last.specs.Offends.{keeps_nearest}
use Rattle.sort_last.specs.Runs.{IsFirstBelow}
use Rattle.sort_last.proofs.OffendingCommands.{nothing_drawn, offence_is, drawn_is, place_more, first_is}
use Rattle.sort_last.proofs.offence.survey_client.Goals as goal

pub overflow_cast-place : goal.overflow_cast-place
overflow_cast-place c =
    let few : length (stream_of c.args.scene.now c.args.client) < 1048577 = short_streams c.args.scene.now c.requires.within.limits c.args.client in
    omega (arith, few, c.loop-place-test.true, c.loop-place.auto.place-end, c.stream_length-length.ensures)

pub loop-place-init : goal.loop-place-init
loop-place-init c =
    let s = c.args.scene.now in
    record { survey = c.in_ok-survey.ensures c.args.client; drawn = sym (nothing_drawn s c.args.client); first = λ place lt. absurd (omega (arith, lt)) }

pub loop-place-preserved : goal.loop-place-preserved
loop-place-preserved c =
    let s = c.args.scene.now in
    let place = c.loop-place.place in
    let i = c.loop-place.invariant in
    record {
      survey = c.in_ok-kind.ensures.after;
      drawn = drawn_is s c.args.client place c.loop-place.drawn c.drawn_after-drawn.result c.in_ok-kind.kind i.drawn c.in_ok-kind.ensures.kind c.drawn_after-drawn.ensures;
      first = place_more s c.args.client place c.loop-place.first c.place_or-first.result c.is_offence.result i.first
          (offence_is s c.args.client place c.keeps_nearest-keeps.result c.loop-place.drawn c.is_offence.result c.in_ok-kind.kind
          (c.keeps_nearest-keeps.ensures ∙ ap keeps_nearest c.state.ensures ∙ ap (λ (v : ClientSurvey). keeps_nearest v.context.outside.state) i.survey) i.drawn
          c.in_ok-kind.ensures.kind c.is_offence.ensures)
          c.place_or-first.ensures;
    }

pub finish-row-requires-clause-whole : goal.finish-row-requires-clause-whole
finish-row-requires-clause-whole c =
    let s = c.args.scene.now in
    let all : c.loop-place.place ≡ length (stream_of s c.args.client) = omega (arith, c.loop-place-test.false, c.loop-place.auto.place-end, c.stream_length-length.ensures) in
    c.loop-place.invariant.survey ∙ ap (survey_after s c.args.client) all

pub returns : goal.returns
returns c =
    let s = c.args.scene.now in
    let all : c.loop-place.place ≡ length (stream_of s c.args.client) = omega (arith, c.loop-place-test.false, c.loop-place.auto.place-end, c.stream_length-length.ensures) in
    record {
      row_is = c.finish-row.ensures.row;
      faults_are = c.finish-row.ensures.faults;
      first_is = first_is s c.args.client c.loop-place.first (subst (λ n. IsFirstBelow s c.args.client n c.loop-place.first) all c.loop-place.invariant.first);
    }
