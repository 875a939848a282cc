use Rattle.worked_examples.proofs.orders.a_unit_is_missing.Goals as goal
use Rattle.std.proofs.Common.{refl}
use Rattle.rc_base.specs.Contexts.Context.{default_state, default_context}
use Rattle.rc_base.specs.Contexts.Issue.{issued, effect_of, context_after, effect_at}
use Rattle.rc_base.specs.Orders.Sync.{waits_below, sync_lists_of}

pub returns-clause-lists : goal.returns-clause-lists
unfolding default_state default_context issued effect_of context_after effect_at waits_below sync_lists_of
returns-clause-lists c = refl
