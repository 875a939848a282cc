use Rattle.std.proofs.Common.{◌≡◌, ℕ, ◌<◌, true, List, sym, ap, ◌∙◌, subst}
use Rattle.rc_base.specs.declared.scene.Decl.{Decl}
use Rattle.tile_model.specs.Boards.{IsCarriedOut}
use Rattle.tile_model.specs.Givable.{is_givable}
use Rattle.tile_server.specs.Waits.{are_plain, board_behind}
use Rattle.tile_server.specs.declared.waiting.WaitingBlock.{WaitingBlock}
use Rattle.tile_server.proofs.LazyBoards.{done_from, tiles_in_turn}
use Rattle.tile_server.proofs.WaitingBlocks.{carried_behind, same_behind}
use Rattle.tile_server.proofs.lazy.LazyCanvas.carry_out.Goals as goal

pub carry_out-requires-clause-client : goal.carry_out-requires-clause-client
carry_out-requires-clause-client c = subst (λ (n : ℕ). c.args.client < n) (sym c.draw_all.ensures.same.tile.clients) c.requires.client

pub invariant_of-self : goal.invariant_of-self
invariant_of-self c =
    let mid = c.draw_all.new.self in
    record { plain = subst (λ (n : ℕ). are_plain n mid.waiting ≡ true) (sym c.carry_out.ensures.same.clients) mid.plain }

pub returns-clause-same : goal.returns-clause-same
returns-clause-same c = tiles_in_turn c.args.self.now.drawn c.draw_all.new.self.drawn c.carry_out.new.self c.draw_all.ensures.same.tile c.carry_out.ensures.same

pub returns-clause-done : goal.returns-clause-done
returns-clause-done c asked =
    let lazy = c.args.self.now in
    let mid = c.draw_all.new.self in
    let new = c.carry_out.new.self in
    let may : is_givable mid.drawn.decl c.args.parcel ≡ true = ap (λ (d : Decl). is_givable d c.args.parcel) c.draw_all.ensures.same.tile.decl ∙ asked in
    done_from lazy mid c.draw_all.ensures.same c.args.client c.args.parcel (board_behind new mid.waiting)
    (subst (λ (ws : List WaitingBlock). IsCarriedOut mid.drawn.decl mid.drawn.layout c.args.client mid.drawn.tile c.args.parcel (board_behind mid.drawn ws) (board_behind new ws))
    (sym c.draw_all.ensures.none) (carried_behind mid.drawn new c.carry_out.ensures.same c.args.client c.args.parcel (c.carry_out.ensures.done may)))

pub returns-clause-ignored : goal.returns-clause-ignored
returns-clause-ignored c asked =
    let mid = c.draw_all.new.self in
    let new = c.carry_out.new.self in
    let not = ap (λ (d : Decl). is_givable d c.args.parcel) c.draw_all.ensures.same.tile.decl ∙ asked in
    subst (λ (ws : List WaitingBlock). board_behind new ws ≡ board_behind mid.drawn ws) (sym c.draw_all.ensures.none)
    (same_behind mid.drawn new c.carry_out.ensures.same (c.carry_out.ensures.ignored not))
    ∙ c.draw_all.ensures.same.board
