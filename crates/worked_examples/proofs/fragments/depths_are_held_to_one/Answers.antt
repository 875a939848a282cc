use Rattle.std.proofs.Common.{refl}
use Rattle.rc_base.specs.Contexts.Context.{default_state, default_context}
use Rattle.rc_base.specs.Contexts.Issue.{issued, context_after}
use Rattle.worked_examples.proofs.fragments.depths_are_held_to_one.Goals as goal

pub returns : goal.returns
unfolding default_state default_context issued context_after
returns c = record { clear_depth = refl; depth_range = refl }
