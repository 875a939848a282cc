use Rattle.order_model.proofs.RecordedByCounts.{counted_first, logged_first}
use Rattle.order_model.proofs.recorded.replay.Goals as goal

pub loop-line-init : goal.loop-line-init
loop-line-init c =
    let r = c.nothing_read-recording in
    record {
      counted = counted_first c.args.syncs.now c.args.journal.now r.result.read r.result.used r.result.counts r.result.order r.ensures.read r.ensures.used r.ensures.counts r.ensures.order;
      order = logged_first c.args.syncs.now c.args.journal.now r.result.read r.result.order c.args.log.now r.ensures.read r.ensures.order;
    }
