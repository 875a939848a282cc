use Rattle.std.proofs.Common.{ℕ, refl, sym, subst}
use Rattle.rc_base.specs.declared.window.Layout.{Layout}
use Rattle.order_model.specs.Board.{Board}
use Rattle.tile_server.specs.Boards.{IsPartOf}
use Rattle.tile_server.specs.Cores.{board_of, layout_of, tile_of}
use Rattle.tile_server.specs.LazyBoards.{board_in}
use Rattle.tile_server.specs.Tasks.{next_frame}
use Rattle.tile_server.proofs.TileRects.{if_ok_both}
use Rattle.tile_server.proofs.tile_core.TileCore.next_part.Goals as goal

pub returns-clause-same : goal.returns-clause-same
returns-clause-same c =
    let s = c.part.ensures.same in
    record {
      same = record { decl = s.tile.decl; clients = refl; layout = s.tile.layout; tile = s.tile.tile };
      ledger = refl;
      board = s.board;
      rotation = refl;
      frames = refl;
      short = refl;
    }

pub returns-clause-part : goal.returns-clause-part
returns-clause-part c =
    let core = c.args.self.now in
    let lazy = c.part.new.self in
    let s = c.part.ensures.same in
    if_ok_both c.part.result (λ part is other.
    subst (λ (l : Layout). IsPartOf l lazy.drawn.tile (next_frame core) (board_in lazy) part) (sym s.tile.layout)
    (subst (λ (n : ℕ). IsPartOf (layout_of core) n (next_frame core) (board_in lazy) part) (sym s.tile.tile)
    (subst (λ (b : Board). IsPartOf (layout_of core) (tile_of core) (next_frame core) b part) (sym s.board)
    (subst (λ (n : ℕ). IsPartOf (layout_of core) (tile_of core) n (board_of core) part) c.saturating_add.ensures is)))) c.part.ensures.part c.part.ensures.part
