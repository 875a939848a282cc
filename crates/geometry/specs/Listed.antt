-- What stored or spelt vertices and blocks stand for.
use Rattle.std.specs.Prelude.{List}
use Rattle.rc_base.specs.declared.state.Block.{Block}
use Rattle.rc_base.specs.declared.state.Vertex.{Vertex}
use Rattle.vertex_bytes.specs.Spelt.{spelt_vertices}
use Rattle.geometry.specs.declared.list.VertexList.{VertexList}
use Rattle.geometry.specs.declared.list.VertexList.TheVariants.{Stored, Spelt}
use Rattle.geometry.specs.declared.primitives.ListedBlock.{ListedBlock}

-- the vertices
abbrev pub listed : VertexList → List Vertex
listed (Stored vertices) = vertices.now
listed (Spelt vertices) = spelt_vertices vertices.bytes.now

-- the block
abbrev pub listed_block : ListedBlock → Block
listed_block b = record { mode = b.mode; vertices = listed b.vertices }
