use Rattle.std.proofs.Common.{[]}
use Rattle.step_core.specs.Worlds.{AreLanesOf}
use Rattle.step_core.proofs.Pushes.{count_more, each_more}
use Rattle.step_core.proofs.first.new_rows.Goals as goal

pub loop-preserved : goal.loop-preserved
loop-preserved c =
    let xs = c.loop.rows.items in
    let x = c.in_ok-new_landings.field-0 in
    record {
      count = count_more c.loop.counter xs _ x c.in_ok-push.ensures.items c.loop.invariant.count;
      at = each_more (λ i y. AreLanesOf c.args.depth c.args.clients (λ client. []) y.items) c.loop.counter xs _ x c.in_ok-push.ensures.items
          c.loop.invariant.count c.loop.invariant.at
          c.in_ok-new_landings.ensures;
    }
