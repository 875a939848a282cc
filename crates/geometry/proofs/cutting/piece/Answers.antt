use Rattle.geometry.proofs.PiecesKept.{part_whole}
use Rattle.geometry.proofs.cutting.piece.Goals as goal

pub returns : goal.returns
returns c = part_whole c.args.state.now c.args.a.now.vertex c.args.b.now.vertex c.args.c.now.vertex c.shown.result c.shown.ensures
