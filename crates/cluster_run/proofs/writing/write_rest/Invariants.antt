use Rattle.std.proofs.Common.{◌≡◌, length}
use Rattle.rc_base.specs.Cluster.Tiles.{tile_count}
use Rattle.assembler.specs.Assembled.{layout_of}
use Rattle.tile_queues.specs.Ends.{sent_in, taken_in}
use Rattle.cluster_run.specs.Serving.{KeepsServed}
use Rattle.cluster_run.proofs.writing.write_rest.Given as goal

abbrev pub invariant-loop : goal.invariant-loop
invariant-loop g l = record {
  room : length l.rests.items ≡ tile_count (layout_of l.writer.parts);
  served : KeepsServed sent_in taken_in g.K.Sink.held g.K.Sink.faults l.fn.writer l.fn.rests.items l.fn.image l.writer l.rests.items l.image;
}
