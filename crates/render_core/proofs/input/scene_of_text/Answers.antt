use Rattle.std.proofs.Common.{◌≡◌, ◌∙◌, Err, inr, ap, subst}
use Rattle.std.specs.Prelude.{IfErr}
use Rattle.std.specs.declared.result.Result.{Result}
use Rattle.rc_base.specs.declared.scene.Scene.{Scene}
use Rattle.scene_text.specs.Drafts.{IsTextFault}
use Rattle.scene_text.specs.declared.parse.TextSceneFault.{TextSceneFault}
use Rattle.scene_text.specs.declared.parse.TextSceneFault.TheVariants as fault
use Rattle.run_words.specs.declared.job.Form.TheVariants.{Text}
use Rattle.render_core.specs.Scenes.{Plain}
use Rattle.render_core.proofs.Judging.{judged_outside}
use Rattle.render_core.proofs.input.scene_of_text.Goals as goal

pub returns-in-Err-Limit-clause-refused : goal.returns-in-Err-Limit-clause-refused
returns-in-Err-Limit-clause-refused c =
    let input = c.args.input.now in
    let is : c.parse_scene.result ≡ Err (fault.Limit c.in-Err-Limit.what c.in-Err-Limit.value) = c.in-Err-Limit.is ∙ ap Err c.in-Err-Limit.field-0-is in
    let beyond = subst (λ (r : Result Scene TextSceneFault). IfErr r (IsTextFault input)) is c.parse_scene.ensures.fails in
    inr (λ task reads. judged_outside task input c.requires Text reads (Plain beyond.0) (record { what = c.in-Err-Limit.what; value = c.in-Err-Limit.value }) beyond.1 beyond.2)
