use Rattle.std.proofs.Common.{refl}
use Rattle.rc_base.specs.Contexts.Context.{default_state, default_context}
use Rattle.rc_base.specs.Contexts.Issue.{issued, context_after, fault_at}
use Rattle.rc_base.specs.Pictures.{with_part}
use Rattle.worked_examples.proofs.faults.a_part_lies_inside_its_image.Goals as goal

pub returns : goal.returns
unfolding default_state default_context issued context_after fault_at with_part
returns c = record { name = refl; no_image = refl; outside = refl; inside = refl }
