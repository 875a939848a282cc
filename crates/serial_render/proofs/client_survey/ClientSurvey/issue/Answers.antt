use Rattle.std.proofs.Common.{◌∙◌, arith, refl, sym, ap, append-nil}
use Rattle.rc_base.specs.Contexts.Issue.{effect_at}
use Rattle.rc_base.proofs.WithinLimits.{few_commands}
use Rattle.gl_context.specs.declared.counting.EffectKind.TheVariants as kind
use Rattle.serial_render.specs.declared.client_survey.ClientSurvey.{ClientSurvey}
use Rattle.serial_render.proofs.SurveyedStreams.{surveyed_more}
use Rattle.serial_render.proofs.client_survey.ClientSurvey.issue.Goals as goal

pub returns-then-count_quiet_at-clause-after : goal.returns-then-count_quiet_at-clause-after
returns-then-count_quiet_at-clause-after g c =
    let s = g.S.SceneStore.scene c.args.scene.now in
    let quiet = c.if-count_quiet_at.true in
    surveyed_more s c.args.client c.args.place (effect_at s c.args.client c.args.place) kind.Quiet c.args.self.now c.count_quiet_at.new.counting c.args.self.now.ops
    c.requires.before (c.count_quiet_at.ensures.context quiet) (c.count_quiet_at.ensures.kind quiet) refl (sym (append-nil c.args.self.now.ops))

pub count_at-requires-clause-before : goal.count_at-requires-clause-before
count_at-requires-clause-before g c = c.count_quiet_at.ensures.left c.if-count_quiet_at.false ∙ ap (λ (t : ClientSurvey). t.context) c.requires.before

pub returns-clause-after : goal.returns-clause-after
returns-clause-after g c =
    let s = g.S.SceneStore.scene c.args.scene.now in
    surveyed_more s c.args.client c.args.place (effect_at s c.args.client c.args.place) c.in_ok-kind.kind c.args.self.now c.count_at.new.counting c.add_operation.new.ops
    c.requires.before c.in_ok-kind.ensures.context c.in_ok-kind.ensures.kind refl c.in_ok-add_operation.ensures

pub overflow_cast-place : goal.overflow_cast-place
overflow_cast-place g c = let few = few_commands (g.S.SceneStore.scene c.args.scene.now) c.requires.within.limits c.args.client in omega (arith, few)
