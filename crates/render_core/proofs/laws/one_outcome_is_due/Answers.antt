use Rattle.render_core.proofs.OneOutcome.{one_outcome, one_raced}
use Rattle.render_core.proofs.laws.one_outcome_is_due.Goals as goal

pub returns : goal.returns
returns c =
    one_outcome c.finished_runs_leave_one_record.ensures c.parcels_are_givable.ensures.sides
    (one_raced c.each_order_has_one_verdict.ensures c.scene_lists_are_well_formed.ensures c.default_journal_is_maximal.ensures c.default_orders_are_permitted.ensures)
