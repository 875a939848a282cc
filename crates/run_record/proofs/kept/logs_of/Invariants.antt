use Rattle.std.proofs.Common.{◌≡◌, ◌++◌}
use Rattle.std.specs.Vec.Iter.{into_iter_items}
use Rattle.rc_base.specs.Lists.{ArePaired}
use Rattle.run_record.specs.Gathering.{IsLogOf}
use Rattle.run_record.proofs.kept.logs_of.Given as goal

abbrev pub invariant-loop-tile : goal.invariant-loop-tile
invariant-loop-tile l = record {
  whole : l.fn.tiles.items ≡ l.yielded ++ into_iter_items l.tile-iterator;
  paired : ArePaired IsLogOf l.yielded l.logs;
}
