use Rattle.std.proofs.Common.{◌≡◌, false, drop}
use Rattle.order_model.specs.Checked.{unit_spots, IsWalk}
use Rattle.order_model.proofs.units.pass_first.Given as goal

abbrev pub invariant-loop-unit : goal.invariant-loop-unit
invariant-loop-unit l = record {
  walk : IsWalk l.syncs l.journal l.order l.takers.read l.takers.used l.takers.spots;
  spots : unit_spots l.syncs l.journal l.order false l.semaphore l.takers.read ≡ drop l.unit (unit_spots l.syncs l.journal l.order false l.semaphore l.fn.takers.read);
}
