use Rattle.step_core.specs.Runnable.{IsNewTileCore}
use Rattle.step_core.proofs.Pushes.{count_more, each_more}
use Rattle.step_core.proofs.first.new_tiles.Goals as goal

pub loop-tile-preserved : goal.loop-tile-preserved
loop-tile-preserved c =
    let xs = c.loop-tile.cores.items in
    let x = c.in_ok-new.field-0 in
    let e = c.in_ok-new.ensures in
    record {
      count = count_more c.loop-tile.tile xs _ x c.in_ok-push.ensures.items c.loop-tile.invariant.count;
      new = each_more (λ i y. IsNewTileCore c.args.decl.now c.args.clients c.args.layout.now i y) c.loop-tile.tile xs _ x c.in_ok-push.ensures.items
          c.loop-tile.invariant.count c.loop-tile.invariant.new record {
            decl_is = e.decl;
            clients_are = e.clients;
            layout = e.layout;
            number_is = e.tile;
            rotation = e.rotation;
            ample = e.ample;
            progress = e.progress;
            board = e.board;
          };
    }
