use Rattle.std.proofs.Common.{refl}
use Rattle.rc_base.specs.Contexts.Context.{default_state, default_context}
use Rattle.rc_base.specs.Contexts.Issue.{issued, context_after, fault_at}
use Rattle.worked_examples.proofs.faults.clears_and_viewports_have_ranges.Goals as goal

pub returns : goal.returns
unfolding default_state default_context issued context_after fault_at
returns c = record { mask = refl; both = refl; wide = refl; low = refl; lower = refl }
