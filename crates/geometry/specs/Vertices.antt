-- Vertices of the window.
use Rattle.std.specs.Prelude.{ℤ}
use Rattle.rc_base.specs.declared.state.Vertex.{Vertex}
use Rattle.rc_base.specs.declared.window.WindowVertex.{WindowVertex}

-- a vertex of the window with these coordinates, and all else of a vertex
abbrev pub vertex_with : Vertex → ℤ → ℤ → ℤ → WindowVertex
vertex_with v x y z = record { x = x; y = y; z = z; color = v.color; s = v.s; t = v.t }
