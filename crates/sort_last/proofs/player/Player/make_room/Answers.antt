use Rattle.std.proofs.Common.{◌∷◌, [], length, ap, arith, length-append}
use Rattle.sort_last.proofs.DrawnFrames.{no_frames}
use Rattle.sort_last.proofs.player.Player.make_room.Goals as goal

pub loop-preserved : goal.loop-preserved
loop-preserved c =
    let i = c.loop.invariant in
    let a = c.none.result in
    record {
      count = omega (arith, ap length c.in_ok-push.ensures.items, length-append c.loop.self.layers.items (a ∷ []), i.count);
      drawn = record { context = i.drawn.context; sheet = i.drawn.sheet; layers = no_frames c.args.batch.now.scene.now c.args.client c.args.batch.now.first _ };
    }
