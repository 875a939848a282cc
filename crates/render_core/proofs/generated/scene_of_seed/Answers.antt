use Rattle.std.proofs.Common.{ap, ◌∙◌}
use Rattle.scene_file.specs.Generator.{generated_scene}
use Rattle.render_core.proofs.Made.{is_made}
use Rattle.render_core.proofs.generated.scene_of_seed.Goals as goal

pub returns-in_ok-generate-in-Ok-clause-made : goal.returns-in_ok-generate-in-Ok-clause-made
returns-in_ok-generate-in-Ok-clause-made c =
    is_made c.args.seed c.args.size c.in_ok-generate-in-Ok.field-0 (c.in_ok-generate-in-Ok.ensures.exact ∙ ap (generated_scene c.args.seed) c.in-Ok.ensures.0) c.in-Ok.ensures.3
    c.in_ok-generate-in-Ok.ensures.within
