use Rattle.std.proofs.Common.{◌≡◌, ℕ, ◌<◌, true, List, [], length, sym, ap, subst}
use Rattle.order_model.specs.Board.{Board}
use Rattle.tile_model.specs.Boards.{IsCarriedOut}
use Rattle.tile_server.specs.Waits.{are_plain, board_behind}
use Rattle.tile_server.specs.declared.waiting.WaitingBlock.{WaitingBlock}
use Rattle.tile_server.proofs.LazyBoards.{done_from, tiles_in_turn}
use Rattle.tile_server.proofs.PlainBlocks.{plain_act}
use Rattle.tile_server.proofs.WaitingBlocks.{first_drawn, last_waits, same_tile}
use Rattle.tile_server.proofs.lazy.LazyCanvas.draw_now.Goals as goal

pub draw_block-requires-clause-client : goal.draw_block-requires-clause-client
draw_block-requires-clause-client c = subst (λ (n : ℕ). c.args.client < n) (sym c.draw_all.ensures.same.tile.clients) c.requires.client

pub draw_block-requires-clause-draws : goal.draw_block-requires-clause-draws
draw_block-requires-clause-draws c = plain_act c.args.parcel.now c.requires.plain

pub invariant_of-self : goal.invariant_of-self
invariant_of-self c =
    let mid = c.draw_all.new.self in
    record { plain = subst (λ (n : ℕ). are_plain n mid.waiting ≡ true) (sym (ap length c.draw_block.ensures.kept.kept)) mid.plain }

pub returns : goal.returns
returns c =
    let lazy = c.args.self.now in
    let mid = c.draw_all.new.self in
    let new = c.draw_block.new.self in
    let w : WaitingBlock = record { client = c.args.client; parcel = c.args.parcel.now } in
    let kept = c.draw_block.ensures.kept in
    let done = done_from lazy mid c.draw_all.ensures.same c.args.client c.args.parcel.now (board_behind new mid.waiting)
    (subst (λ (ws : List WaitingBlock). IsCarriedOut mid.drawn.decl mid.drawn.layout c.args.client mid.drawn.tile c.args.parcel.now (board_behind mid.drawn ws) (board_behind new ws))
    (sym c.draw_all.ensures.none)
    (subst (λ (b : Board). IsCarriedOut mid.drawn.decl mid.drawn.layout c.args.client mid.drawn.tile c.args.parcel.now (board_behind mid.drawn []) b)
    (sym (first_drawn mid.drawn new kept w [] c.draw_block.ensures.drawn)) (last_waits mid.drawn [] w c.requires.plain))) in
    record {
      same = tiles_in_turn lazy.drawn mid.drawn new c.draw_all.ensures.same.tile (same_tile mid.drawn new kept);
      done = done;
    }
