use Rattle.std.proofs.Common.{true, false, arith, sym, ◌∙◌}
use Rattle.order_model.specs.Checked.{unit_spots}
use Rattle.order_model.proofs.UnitsByWalks.{spots_past}
use Rattle.order_model.proofs.UnitsInTurn.{turn_none}
use Rattle.order_model.proofs.units.are_in_turn.Goals as goal

pub returns-in-None : goal.returns-in-None
returns-in-None c =
    let spots = unit_spots c.args.syncs.now c.args.journal.now c.args.order.now in
    sym (turn_none (spots true c.args.semaphore c.loop-index.givers.read) (spots false c.args.semaphore c.loop-index.takers.read) (c.next_unit.ensures.none c.in-None.is))
    ∙ c.loop-index.invariant.turn

pub returns : goal.returns
returns c =
    let spots = unit_spots c.args.syncs.now c.args.journal.now c.args.order.now in
    sym (turn_none (spots true c.args.semaphore c.loop-index.givers.read) (spots false c.args.semaphore c.loop-index.takers.read)
    (spots_past c.args.syncs.now c.args.journal.now c.args.order.now false c.args.semaphore c.loop-index.takers.read (omega (arith, c.loop-index.invariant.read))))
    ∙ c.loop-index.invariant.turn
