use Rattle.std.proofs.Common.{false}
use Rattle.order_model.specs.Checked.{unit_spots}
use Rattle.order_model.proofs.UnitsInTurn.{one_passed}
use Rattle.order_model.proofs.units.pass_first.Goals as goal

pub loop-unit-preserved : goal.loop-unit-preserved
loop-unit-preserved c =
    let spots = unit_spots c.args.syncs.now c.args.journal.now c.args.order.now false c.args.semaphore in
    record {
      walk = c.next_unit-spot.ensures.next.walk;
      spots = one_passed c.next_unit-spot.result (spots c.loop-unit.takers.read) (spots c.next_unit-spot.new.walk.read) (spots c.args.takers.now.read) c.loop-unit.unit
          c.next_unit-spot.ensures.next.spot c.next_unit-spot.ensures.none c.loop-unit.invariant.spots;
    }
