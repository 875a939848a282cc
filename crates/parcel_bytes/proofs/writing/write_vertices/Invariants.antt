use Rattle.std.proofs.Common.{◌≡◌, ◌++◌, take}
use Rattle.std.specs.List.{flat_map, AllByRecursion}
use Rattle.parcel_bytes.specs.Spelling.{IsVertex, vertex_bytes}
use Rattle.parcel_bytes.proofs.writing.write_vertices.Given as goal

abbrev pub invariant-loop-vertex : goal.invariant-loop-vertex
invariant-loop-vertex l = (l.out ≡ l.fn.out ++ flat_map vertex_bytes (take l.vertex-index l.vertices)) × AllByRecursion IsVertex (take l.vertex-index l.vertices)
