use Rattle.std.proofs.Common.{◌≡◌, List, ◌++◌, length}
use Rattle.std.specs.Vec.Iter.{into_iter_items}
use Rattle.rc_base.specs.declared.command.Command.{Command}
use Rattle.cluster_run.specs.NewWorkers.{AreNewClients}
use Rattle.cluster_run.proofs.clients.new_clients.Given as goal

abbrev pub invariant-loop-tiles : goal.invariant-loop-tiles
invariant-loop-tiles g l = record {
  whole : l.fn.rows.items ≡ l.yielded ++ into_iter_items l.tiles-iterator;
  given : List (List Command);
  count : length given ≡ length l.yielded;
  streams_are : l.fn.scene.streams ≡ given ++ into_iter_items l.streams;
  made : AreNewClients l.fn.scene l.layout l.depth l.yielded l.workers.items l.requests.items;
}
