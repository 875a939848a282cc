use Rattle.std.proofs.Common.{◌≡◌, ◌++◌}
use Rattle.std.specs.Vec.Iter.{into_iter_items}
use Rattle.run_record.specs.Kept.{AreKept}
use Rattle.run_record.proofs.kept.kept_lists.Given as goal

abbrev pub invariant-loop-client : goal.invariant-loop-client
invariant-loop-client l = record {
  whole : l.fn.clients.items ≡ l.yielded ++ into_iter_items l.client-iterator;
  kept : AreKept l.yielded l.tiles l.lists;
}
