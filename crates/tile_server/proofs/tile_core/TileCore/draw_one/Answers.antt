use Rattle.std.proofs.Common.{refl}
use Rattle.tile_server.proofs.tile_core.TileCore.draw_one.Goals as goal

pub returns-clause-same : goal.returns-clause-same
returns-clause-same c =
    let s = c.draw_one.ensures.same in
    record {
      same = record { decl = s.tile.decl; clients = refl; layout = s.tile.layout; tile = s.tile.tile };
      ledger = refl;
      board = s.board;
      rotation = refl;
      frames = refl;
      short = refl;
    }
