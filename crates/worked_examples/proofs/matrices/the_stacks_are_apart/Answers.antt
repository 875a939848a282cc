use Rattle.std.proofs.Common.{refl}
use Rattle.rc_base.specs.Contexts.Context.{default_state, default_context}
use Rattle.rc_base.specs.Contexts.Issue.{issued, context_after, fault_at}
use Rattle.worked_examples.proofs.matrices.the_stacks_are_apart.Goals as goal

pub returns : goal.returns
unfolding default_state default_context issued context_after fault_at
returns c = record { underflow = refl; projection = refl; modelview = refl }
