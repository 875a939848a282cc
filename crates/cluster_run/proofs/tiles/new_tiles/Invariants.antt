use Rattle.std.proofs.Common.{◌≡◌, ◌++◌}
use Rattle.std.specs.Vec.Iter.{into_iter_items}
use Rattle.cluster_run.specs.NewWorkers.{AreNewTiles}
use Rattle.cluster_run.proofs.tiles.new_tiles.Given as goal

abbrev pub invariant-loop-clients : goal.invariant-loop-clients
invariant-loop-clients g l = record {
  whole : l.fn.columns.items ≡ l.yielded ++ into_iter_items l.clients-iterator;
  made : AreNewTiles l.scene l.layout l.depth l.yielded l.workers.items l.grants.items l.parts.items;
}
