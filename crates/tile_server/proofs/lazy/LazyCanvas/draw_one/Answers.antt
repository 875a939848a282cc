use Rattle.std.proofs.Common.{◌≡◌, ℕ, true, List, length, sym, ap, ◌∙◌, subst}
use Rattle.tile_server.specs.Boards.{canvas_clients}
use Rattle.tile_server.specs.Waits.{are_plain, board_behind}
use Rattle.tile_server.specs.declared.waiting.WaitingBlock.{WaitingBlock}
use Rattle.tile_server.proofs.WaitingBlocks.{first_drawn, first_plain, same_tile}
use Rattle.tile_server.proofs.lazy.LazyCanvas.draw_one.Goals as goal

pub invariant_of-self : goal.invariant_of-self
invariant_of-self c =
    let lazy = c.args.self.now in
    let n = canvas_clients lazy.drawn in
    let rest = c.pop.new.self in
    record {
      plain = subst (λ (m : ℕ). are_plain m rest ≡ true) (sym (ap length c.draw_block.ensures.kept.kept))
          (first_plain n c.in-Some.block rest (subst (λ (ws : List WaitingBlock). are_plain n ws ≡ true) c.in-Some.ensures.items lazy.plain)).2;
    }

pub returns-in-Some-clause-same : goal.returns-in-Some-clause-same
returns-in-Some-clause-same c =
    let lazy = c.args.self.now in
    let new = c.draw_block.new.self in
    record {
      tile = same_tile lazy.drawn new c.draw_block.ensures.kept;
      board = first_drawn lazy.drawn new c.draw_block.ensures.kept c.in-Some.block c.pop.new.self c.draw_block.ensures.drawn
          ∙ ap (λ (ws : List WaitingBlock). board_behind lazy.drawn ws) (sym c.in-Some.ensures.items);
    }
