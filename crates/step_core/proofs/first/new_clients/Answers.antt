use Rattle.step_core.specs.Runnable.{new_client}
use Rattle.step_core.specs.Worlds.{IsClientOf}
use Rattle.step_core.proofs.Pushes.{count_more, each_more}
use Rattle.step_core.proofs.first.new_clients.Goals as goal

pub loop-client-preserved : goal.loop-client-preserved
loop-client-preserved c =
    let xs = c.loop-client.cores.items in
    let x = c.in_ok-new.field-0 in
    let e = c.in_ok-new.ensures in
    let s = c.args.scene.now in
    let l = c.args.layout.now in
    record {
      count = count_more c.loop-client.client xs _ x c.in_ok-push.ensures.items c.loop-client.invariant.count;
      at = each_more (λ i y. IsClientOf s l i (new_client s l i) y) c.loop-client.client xs _ x c.in_ok-push.ensures.items
          c.loop-client.invariant.count c.loop-client.invariant.at record {
            whose = e.whose;
            short = e.short;
            left = e.left;
            tallies = e.tallies;
          };
    }
