use Rattle.std.proofs.Common.{[]}
use Rattle.step_core.specs.Worlds.{IsPortRow}
use Rattle.step_core.proofs.Pushes.{count_more, each_more}
use Rattle.step_core.proofs.first.new_ports.Goals as goal

pub loop-preserved : goal.loop-preserved
loop-preserved c =
    let xs = c.loop.ports.items in
    let x = c.in_ok-new_port_row.field-0 in
    record {
      count = count_more c.loop.counter xs _ x c.in_ok-push.ensures.items c.loop.invariant.count;
      at = each_more (λ i y. IsPortRow c.args.depth c.args.tiles (λ tile. []) y.items) c.loop.counter xs _ x c.in_ok-push.ensures.items
          c.loop.invariant.count c.loop.invariant.at
          c.in_ok-new_port_row.ensures;
    }
