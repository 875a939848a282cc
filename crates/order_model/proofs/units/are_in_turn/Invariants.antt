use Rattle.std.proofs.Common.{◌≡◌, ◌≤◌, true, false}
use Rattle.order_model.specs.Checked.{are_in_turn, unit_spots, IsWalk}
use Rattle.order_model.proofs.units.are_in_turn.Given as goal

abbrev pub invariant-loop-index : goal.invariant-loop-index
invariant-loop-index l = record {
  givers : IsWalk l.syncs l.journal l.order l.givers.read l.givers.used l.givers.spots;
  takers : IsWalk l.syncs l.journal l.order l.takers.read l.takers.used l.takers.spots;
  read : l.index ≤ l.takers.read;
  turn : are_in_turn (unit_spots l.syncs l.journal l.order true l.semaphore l.givers.read) (unit_spots l.syncs l.journal l.order false l.semaphore l.takers.read)
      ≡ are_in_turn (unit_spots l.syncs l.journal l.order true l.semaphore l.fn.givers.read) (unit_spots l.syncs l.journal l.order false l.semaphore l.fn.takers.read);
}
