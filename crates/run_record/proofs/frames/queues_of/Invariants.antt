use Rattle.std.proofs.Common.{◌≡◌, ◌++◌}
use Rattle.std.specs.Vec.Iter.{into_iter_items}
use Rattle.run_record.specs.Frames.{IsQueueOf}
use Rattle.rc_base.specs.Lists.{ArePaired}
use Rattle.run_record.proofs.frames.queues_of.Given as goal

abbrev pub invariant-loop-list : goal.invariant-loop-list
invariant-loop-list l = record {
  whole : l.fn.lists.items ≡ l.yielded ++ into_iter_items l.list-iterator;
  paired : ArePaired IsQueueOf l.yielded l.queues.items;
}
