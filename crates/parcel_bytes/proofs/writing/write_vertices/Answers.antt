use Rattle.parcel_bytes.specs.Spelling.{IsVertex, vertex_bytes}
use Rattle.byte_codec.proofs.WrittenInTurn.{all_grown, all_whole, grown, grown_whole}
use Rattle.parcel_bytes.proofs.writing.write_vertices.Goals as goal

pub loop-vertex-preserved : goal.loop-vertex-preserved
loop-vertex-preserved c = (
  grown vertex_bytes c.args.out.now c.loop-vertex.out c.write_vertex.new.out c.args.vertices.now c.loop-vertex.vertex-index _ c.loop-vertex-test.true c.loop-vertex.invariant.0 c.in_ok-write_vertex.ensures.added,
  all_grown IsVertex c.args.vertices.now c.loop-vertex.vertex-index _ c.loop-vertex-test.true c.loop-vertex.invariant.1 c.in_ok-write_vertex.ensures.typed,
)

pub returns-clause-added : goal.returns-clause-added
returns-clause-added c = grown_whole vertex_bytes c.args.out.now c.loop-vertex.out c.args.vertices.now c.loop-vertex.vertex-index c.loop-vertex-test.false c.loop-vertex.invariant.0

pub returns-clause-typed : goal.returns-clause-typed
returns-clause-typed c = all_whole IsVertex c.args.vertices.now c.loop-vertex.vertex-index c.loop-vertex-test.false c.loop-vertex.invariant.1
