use Rattle.std.proofs.Common.{◌∙◌, refl, sym}
use Rattle.rc_base.specs.Outside.Ends.{use_of}
use Rattle.scene_file.specs.Generator.{generated_scene}
use Rattle.render_core.proofs.Inputs.{faults_few}
use Rattle.render_core.proofs.Performing.{came_made, early_unmade, unmade_cause}
use Rattle.render_core.proofs.steps.meaning_for.Goals as goal

pub returns-in-Err-clause-refused : goal.returns-in-Err-clause-refused
returns-in-Err-clause-refused g c =
    let source = use_of g.S.Source.left g.S.Source.faults c.args.source.now c.args.source.now in
    unmade_cause c.args.job c.in-Generated.seed c.in-Generated.size (sym c.in-Generated.ensures) source (refl, refl) c.in-Err.refusal c.in-Err.ensures.refused

pub returns-in-Err-clause-early : goal.returns-in-Err-clause-early
returns-in-Err-clause-early g c =
    early_unmade c.args.job (generated_scene c.in-Generated.seed c.in-Generated.size) c.in-Err.refusal c.in-Err.ensures.refused

pub returns-in-Ok-clause-came : goal.returns-in-Ok-clause-came
returns-in-Ok-clause-came g c =
    let source = use_of g.S.Source.left g.S.Source.faults c.args.source.now c.args.source.now in
    came_made c.args.job c.in-Generated.seed c.in-Generated.size (sym c.in-Generated.ensures) source (refl, refl) c.plain.result
    (c.plain.ensures.scene ∙ c.in-Ok.ensures.made.is) c.plain.ensures.faults

pub returns-in_ok-meaning_of-in-Read-clause-few : goal.returns-in_ok-meaning_of-in-Read-clause-few
returns-in_ok-meaning_of-in-Read-clause-few g c = faults_few _ _ _ c.in_ok-meaning_of-in-Read.ensures.read
