use Rattle.std.proofs.Common.{◌≡◌, true}
use Rattle.rc_base.specs.Orders.Journal.{reach_of}
use Rattle.rc_base.specs.Orders.Order.{all_added}
use Rattle.order_model.specs.Counted.{AreCounts}
use Rattle.order_model.proofs.recorded.add_rest.Given as goal

abbrev pub invariant-loop-client : goal.invariant-loop-client
invariant-loop-client l = record {
  order : l.order ≡ all_added (λ c. true) (reach_of l.syncs l.journal) l.client l.fn.order;
  counts : AreCounts l.order l.counts;
}
