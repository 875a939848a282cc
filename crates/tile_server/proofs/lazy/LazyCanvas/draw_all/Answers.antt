use Rattle.std.proofs.Common.{arith}
use Rattle.tile_server.proofs.LazyBoards.{boards_in_turn}
use Rattle.tile_server.proofs.lazy.LazyCanvas.draw_all.Goals as goal

pub loop-preserved : goal.loop-preserved
loop-preserved c = (
  boards_in_turn c.args.self.now c.loop.self _ c.loop.invariant.0 c.draw_one-drawn.ensures.same,
  omega (arith, c.loop.invariant.1, c.draw_one-drawn.ensures.one),
)
