use Rattle.std.proofs.Common.{refl}
use Rattle.tile_server.proofs.NewCanvases.{one_more}
use Rattle.tile_server.proofs.blank.new_clients.Goals as goal

pub loop-preserved : goal.loop-preserved
loop-preserved c =
    one_more c.args.state c.loop.counter c.loop.clients.items c.push.new.self.items _ c.loop.invariant c.in_ok-push.ensures.items refl c.in_ok-new.ensures
