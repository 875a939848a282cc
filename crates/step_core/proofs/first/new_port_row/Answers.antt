use Rattle.std.proofs.Common.{[]}
use Rattle.step_core.specs.Worlds.{IsEmptyPort}
use Rattle.step_core.proofs.Pushes.{count_more, each_more}
use Rattle.step_core.proofs.first.new_port_row.Goals as goal

pub loop-preserved : goal.loop-preserved
loop-preserved c =
    let xs = c.loop.row.items in
    let x = c.new.result in
    record {
      count = count_more c.loop.counter xs _ x c.in_ok-push.ensures.items c.loop.invariant.count;
      at = each_more (λ i y. IsEmptyPort c.args.depth [] y) c.loop.counter xs _ x c.in_ok-push.ensures.items
          c.loop.invariant.count c.loop.invariant.at
          record { empty = c.new.ensures.sent; count = c.new.ensures.count; most = c.new.ensures.depth };
    }
