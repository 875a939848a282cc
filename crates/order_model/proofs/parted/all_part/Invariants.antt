use Rattle.std.proofs.Common.{◌≡◌, ◌+◌, ◌-◌, ◌≤◌, take, drop}
use Rattle.rc_base.specs.Orders.Journal.{sync_state_after}
use Rattle.rc_base.specs.Orders.Order.{entries_of, entries_from}
use Rattle.rc_base.specs.Orders.Sync.{client_count}
use Rattle.order_model.specs.Checked.{first_at, all_part}
use Rattle.order_model.specs.Counted.{used_by, place_or_end}
use Rattle.order_model.proofs.parted.all_part.Given as goal

abbrev pub invariant-loop-entry : goal.invariant-loop-entry
invariant-loop-entry l = record {
  first_used : l.first.used ≡ used_by (client_count l.syncs) l.a (take l.entry-index l.journal);
  second_used : l.second.used ≡ used_by (client_count l.syncs) l.b (take l.entry-index l.journal);
  first_spot : l.first.spot ≤ first_at l.order l.a (place_or_end l.syncs l.a l.first.used - 1);
  second_spot : l.second.spot ≤ first_at l.order l.b (place_or_end l.syncs l.b l.second.used + 1);
  rest : all_part l.order l.a l.b (entries_from l.syncs (sync_state_after l.syncs (take l.entry-index l.journal)) (drop l.entry-index l.journal)) ≡ all_part l.order l.a l.b (entries_of l.syncs l.journal);
}
