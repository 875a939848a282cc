use Rattle.std.proofs.Common.{List, sym, subst}
use Rattle.tile_model.specs.Boards.{IsNewBoard}
use Rattle.tile_server.specs.Waits.{board_behind}
use Rattle.tile_server.specs.declared.waiting.WaitingBlock.{WaitingBlock}
use Rattle.tile_server.proofs.WaitingBlocks.{new_behind}
use Rattle.tile_server.proofs.lazy.LazyCanvas.new.Goals as goal

pub returns-clause-blank : goal.returns-clause-blank
returns-clause-blank c =
    let drawn = c.in_ok-drawn.drawn in
    subst (λ (ws : List WaitingBlock). IsNewBoard c.args.decl.now c.args.layout.now c.args.tile (board_behind drawn ws)) (sym c.in_ok-waiting.ensures)
    (new_behind drawn c.args.decl.now c.args.layout.now c.args.tile c.in_ok-drawn.ensures.layout c.in_ok-drawn.ensures.tile c.in_ok-drawn.ensures.blank)
