use Rattle.std.proofs.Common.{◌≡◌, ◌+◌, slice_index}
use Rattle.rc_base.specs.Orders.Journal.{is_member}
use Rattle.rc_base.specs.Orders.Order.{all_added}
use Rattle.rc_base.specs.Orders.Sync.{client_count}
use Rattle.order_model.specs.Counted.{place_or_end, AreCounts}
use Rattle.order_model.proofs.recorded.add_members.Given as goal

abbrev pub invariant-loop-client : goal.invariant-loop-client
invariant-loop-client l = record {
  order : l.order ≡ all_added (is_member (client_count l.syncs) l.entry) (λ c. place_or_end l.syncs c (slice_index l.used c) + 1) l.client l.fn.order;
  counts : AreCounts l.order l.counts;
}
