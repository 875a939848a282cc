use Rattle.std.proofs.Common.{refl}
use Rattle.tile_server.specs.Boards.{board_on}
use Rattle.tile_server.proofs.TileRects.{if_ok_both, is_part}
use Rattle.tile_server.proofs.canvas.Canvas.part.Goals as goal

pub returns : goal.returns
returns c =
    let canvas = c.args.self.now in
    if_ok_both c.part.result (is_part canvas.layout canvas.tile c.args.frame (board_on canvas) canvas.device canvas.place refl) c.part.ensures.part c.part.ensures.size
