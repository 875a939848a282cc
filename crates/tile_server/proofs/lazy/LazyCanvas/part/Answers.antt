use Rattle.std.proofs.Common.{ℕ, List, sym, subst}
use Rattle.rc_base.specs.declared.window.Layout.{Layout}
use Rattle.order_model.specs.Board.{Board}
use Rattle.tile_server.specs.Boards.{IsPartOf}
use Rattle.tile_server.specs.LazyBoards.{board_in}
use Rattle.tile_server.specs.Waits.{board_behind}
use Rattle.tile_server.specs.declared.waiting.WaitingBlock.{WaitingBlock}
use Rattle.tile_server.proofs.TileRects.{if_ok_both}
use Rattle.tile_server.proofs.WaitingBlocks.{part_behind}
use Rattle.tile_server.proofs.lazy.LazyCanvas.part.Goals as goal

pub returns-clause-part : goal.returns-clause-part
returns-clause-part c =
    let lazy = c.args.self.now in
    let mid = c.draw_all.new.self in
    let same = c.draw_all.ensures.same in
    if_ok_both c.part.result (λ part is other.
    subst (λ (l : Layout). IsPartOf l lazy.drawn.tile c.args.frame (board_in lazy) part) same.tile.layout
    (subst (λ (n : ℕ). IsPartOf mid.drawn.layout n c.args.frame (board_in lazy) part) same.tile.tile
    (subst (λ (b : Board). IsPartOf mid.drawn.layout mid.drawn.tile c.args.frame b part) same.board
    (subst (λ (ws : List WaitingBlock). IsPartOf mid.drawn.layout mid.drawn.tile c.args.frame (board_behind mid.drawn ws) part) (sym c.draw_all.ensures.none)
    (part_behind mid.drawn c.args.frame part is))))) c.part.ensures c.part.ensures
