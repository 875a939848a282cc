use Rattle.std.proofs.Common.{◌≡◌, []}
use Rattle.step_core.proofs.Pushes.{count_more, each_more}
use Rattle.step_core.proofs.first.new_lists.Goals as goal

pub loop-preserved : goal.loop-preserved
loop-preserved c =
    let xs = c.loop.lists.items in
    let x = c.new.result in
    record {
      count = count_more c.loop.counter xs _ x c.in_ok-push.ensures.items c.loop.invariant.count;
      empty = each_more (λ i y. y.items ≡ []) c.loop.counter xs _ x c.in_ok-push.ensures.items c.loop.invariant.count c.loop.invariant.empty
          c.new.ensures.items;
    }
