use Rattle.std.proofs.Common.{◌≡◌}
use Rattle.order_model.specs.Checked.{unit_spots, IsWalk}
use Rattle.order_model.proofs.spots.next_unit.Given as goal

abbrev pub invariant-loop-index : goal.invariant-loop-index
invariant-loop-index l = record {
  walk : IsWalk l.syncs l.journal l.order l.walk.read l.walk.used l.walk.spots;
  read : l.walk.read ≡ l.index;
  spots : unit_spots l.syncs l.journal l.order l.gives l.semaphore l.walk.read ≡ unit_spots l.syncs l.journal l.order l.gives l.semaphore l.fn.walk.read;
}
