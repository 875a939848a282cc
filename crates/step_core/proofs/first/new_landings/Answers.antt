use Rattle.std.proofs.Common.{[]}
use Rattle.step_core.specs.Worlds.{IsLaneOf}
use Rattle.step_core.proofs.Pushes.{count_more, each_more}
use Rattle.step_core.proofs.first.new_landings.Goals as goal

pub loop-preserved : goal.loop-preserved
loop-preserved c =
    let xs = c.loop.lanes.items in
    let x = c.in_ok-new.field-0 in
    record {
      count = count_more c.loop.counter xs _ x c.in_ok-push.ensures.items c.loop.invariant.count;
      at = each_more (λ i y. IsLaneOf c.args.depth [] y) c.loop.counter xs _ x c.in_ok-push.ensures.items c.loop.invariant.count c.loop.invariant.at
          record { holds = c.in_ok-new.ensures.0; most = c.in_ok-new.ensures.1 };
    }
