use Rattle.std.proofs.Common.{refl}
use Rattle.rc_base.specs.Contexts.Context.{default_state, default_context}
use Rattle.rc_base.specs.Contexts.Issue.{issued, context_after, fault_at}
use Rattle.worked_examples.proofs.faults.stacks_hold_32_matrices.Goals as goal

pub returns : goal.returns
unfolding default_state default_context issued context_after fault_at
returns c = record { last = refl; overflow = refl; underflow = refl }
