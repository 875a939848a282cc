use Rattle.std.proofs.Common.{refl}
use Rattle.rc_base.specs.Contexts.Context.{default_state, default_context}
use Rattle.rc_base.specs.Contexts.Issue.{issued, context_after}
use Rattle.rc_base.specs.Pictures.{with_part}
use Rattle.worked_examples.proofs.textures.a_part_writes_its_texels_alone.Goals as goal

pub returns : goal.returns
unfolding default_state default_context issued context_after with_part
returns c = record { texels = refl; edits = refl }
