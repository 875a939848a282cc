use Rattle.std.proofs.Common.{◌≡◌, ◌++◌, length}
use Rattle.std.specs.Vec.Iter.{into_iter_items}
use Rattle.serial_render.specs.Surveyed.{AreSurveyed}
use Rattle.sort_last.specs.Runs.{IsFirstOf}
use Rattle.sort_last.proofs.survey.gathered.Given as goal

abbrev pub invariant-loop-one : goal.invariant-loop-one
invariant-loop-one l = record {
  whole : l.fn.found.items ≡ l.yielded ++ into_iter_items l.one-iterator;
  surveyed : AreSurveyed l.scene (length l.yielded) l.rows l.faults;
  count : length l.rows ≡ length l.yielded;
  offence : IsFirstOf l.scene (length l.yielded) l.offence;
}
