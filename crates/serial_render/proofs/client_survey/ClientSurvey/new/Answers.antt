use Rattle.std.proofs.Common.{sym, ap, ◌∙◌}
use Rattle.rc_base.specs.Contexts.Context.{default_context}
use Rattle.rc_base.specs.declared.scene.Decl.{Decl}
use Rattle.gl_context.specs.Counted.{counted}
use Rattle.gl_context.proofs.OneMoreCommand.{begins}
use Rattle.serial_render.proofs.SurveyedStreams.{no_waits}
use Rattle.serial_render.proofs.client_survey.ClientSurvey.new.Goals as goal

pub returns : goal.returns
returns g c client =
    let s = g.S.SceneStore.scene c.args.scene.now in
    λ i. record {
      context = (c.in_ok-new.ensures ∙ ap (λ (d : Decl). counted (default_context d)) c.decl.ensures ∙ ap counted (sym (begins s client))) i;
      ops = (c.new-2.ensures ∙ no_waits s client) i;
    }
