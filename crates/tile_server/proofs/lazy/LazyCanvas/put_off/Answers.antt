use Rattle.std.proofs.Common.{◌≡◌, ℕ, true, List, length, sym, ap, ◌∙◌, subst}
use Rattle.tile_model.specs.Boards.{IsCarriedOut}
use Rattle.tile_server.specs.LazyBoards.{board_in}
use Rattle.tile_server.specs.Waits.{board_behind, has_room}
use Rattle.tile_server.specs.declared.waiting.WaitingBlock.{WaitingBlock}
use Rattle.tile_server.proofs.LazyBoards.{done_from}
use Rattle.tile_server.proofs.WaitingBlocks.{last_waits}
use Rattle.tile_server.proofs.lazy.LazyCanvas.put_off.Goals as goal

pub push-requires : goal.push-requires
push-requires c =
    subst (λ (n : ℕ). has_room c.make_room.new.self.waiting n ≡ true) (ap length c.bytes-size.ensures.parts) (sym c.has_room.ensures ∙ c.if-has_room.true)

pub returns-then-has_room : goal.returns-then-has_room
returns-then-has_room c =
    let mid = c.make_room.new.self in
    let drawn = mid.drawn in
    let w : WaitingBlock = record { client = c.args.client; parcel = c.args.parcel } in
    let done = done_from c.args.self.now mid c.make_room.ensures c.args.client c.args.parcel (board_behind drawn c.push.new.self)
    (subst (λ (ws : List WaitingBlock). IsCarriedOut drawn.decl drawn.layout c.args.client drawn.tile c.args.parcel (board_in mid) (board_behind drawn ws)) (sym c.push.ensures)
    (last_waits drawn mid.waiting w c.requires.plain)) in
    record { same = c.make_room.ensures.tile; done = done }
