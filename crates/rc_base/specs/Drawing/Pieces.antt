-- A triangle and the near plane, in homogeneous clip coordinates: the polygon of what is in front, as Sutherland and Hodgman cut a polygon by
-- one plane, its pieces, and the kept triangles of a block.
--
-- The near plane stands at w = 1/256, which parts the vertices that can be divided by w from those at the eye and behind it. It isn't OpenGL's near plane,
-- z = -w: whether a depth lies before that one is judged fragment by fragment.
use Rattle.std.specs.Prelude.{ℕ, ◌+◌, ◌-◌, ◌^◌, List, [], ◌∷◌, ◌++◌, map, length, Bool, ◌&&◌, if◌then◌else◌, slice_index, nat_lt, ℤ, pos, int_le, ◌+ℤ◌, ◌-ℤ◌, ◌*ℤ◌}
use Rattle.std.specs.List.{range_with_len, filter_map, flat_map}
use Rattle.rc_base.specs.Numbers.{floor_quotient, natural, is_within}
use Rattle.rc_base.specs.Drawing.Window.{clip_vertex}
use Rattle.rc_base.specs.Drawing.Kept.{point, kept_at, vertex_at}
use Rattle.rc_base.specs.Drawing.Triangles.{cut_modes, triangles_in}
use Rattle.rc_base.specs.declared.state.Block.{Block}
use Rattle.rc_base.specs.declared.state.State.{State}
use Rattle.rc_base.specs.declared.state.Vertex.{Vertex}
use Rattle.rc_base.specs.declared.window.ClipVertex.{ClipVertex}
use Rattle.rc_base.specs.declared.window.WindowVertex.{WindowVertex}

-- ---- the near plane

-- where the near plane stands: w is a 256th of one, in 16.16 fixed point
abbrev pub near_w : ℕ
near_w = 256

-- the bound of the clip coordinates that are cut
abbrev pub clip_bound : ℕ
clip_bound = 2 ^ 46

unfoldable pub is_cuttable : ClipVertex → Bool
is_cuttable c = is_within clip_bound c.x && (is_within clip_bound c.y && (is_within clip_bound c.z && is_within clip_bound c.w))

-- the vertex is in front of the near plane, or on it
unfoldable pub is_in_front : ClipVertex → Bool
is_in_front c = int_le (pos near_w) c.w

-- The value at the near plane of what is `from` at a vertex in front and `to` at one behind, and changes evenly between them, rounded down.
abbrev pub crossing_value : ClipVertex → ClipVertex → ℤ → ℤ → ℤ
crossing_value a b from to = from +ℤ floor_quotient ((to -ℤ from) *ℤ (a.w -ℤ pos near_w)) (a.w -ℤ b.w)

abbrev pub crossing_channel : ClipVertex → ClipVertex → ℕ → ℕ → ℕ
crossing_channel a b from to = natural (crossing_value a b (pos from) (pos to))

-- where the edge from a vertex in front to one behind meets the near plane
unfoldable pub crossing_point : ClipVertex → ClipVertex → ClipVertex
crossing_point a b = record {
  x = crossing_value a b a.x b.x;
  y = crossing_value a b a.y b.y;
  z = crossing_value a b a.z b.z;
  w = pos near_w;
  color = record {
    r = crossing_channel a b a.color.r b.color.r;
    g = crossing_channel a b a.color.g b.color.g;
    b = crossing_channel a b a.color.b b.color.b;
    a = crossing_channel a b a.color.a b.color.a;
  };
  s = crossing_value a b a.s b.s;
  t = crossing_value a b a.t b.t;
}

-- where an edge crosses the near plane: nowhere, unless exactly one of its ends is in front. It is one point from either end.
abbrev pub crossing : ClipVertex → ClipVertex → List ClipVertex
crossing a b =
    if is_in_front a then (if is_in_front b then [] else crossing_point a b ∷ [])
    else (if is_in_front b then crossing_point b a ∷ [] else [])

-- what is put down for a vertex and its edge to the next one: the vertex where it is in front, and then the edge's crossing
abbrev pub put_down : ClipVertex → ClipVertex → List ClipVertex
put_down a b = (if is_in_front a then a ∷ [] else []) ++ crossing a b

-- the polygon of a triangle's part in front, going round its vertices: of no point, three or four
unfoldable pub polygon_of : ClipVertex → ClipVertex → ClipVertex → List ClipVertex
polygon_of a b c = put_down a b ++ (put_down b c ++ put_down c a)

-- a polygon's pieces: its triangles, as a fan from its first point
abbrev pub fan_of : List ClipVertex → List (List ClipVertex)
fan_of p = map (λ i. point p 0 ∷ point p (i + 1) ∷ point p (i + 2) ∷ []) (range_with_len 0 (length p - 2))

-- the pieces of a triangle in front of the near plane: those of its polygon, and none where a coordinate is too large to be cut
unfoldable pub front_pieces : ClipVertex → ClipVertex → ClipVertex → List (List ClipVertex)
front_pieces a b c = if is_cuttable a && (is_cuttable b && is_cuttable c) then fan_of (polygon_of a b c) else []

-- ---- the kept triangles of a block

-- the pieces of a triangle of a block: it is its own one, or it is cut
unfoldable pub pieces_of : ℕ → ClipVertex → ClipVertex → ClipVertex → List (List ClipVertex)
pieces_of mode a b c = if nat_lt mode cut_modes then (a ∷ b ∷ c ∷ []) ∷ [] else front_pieces a b c

-- the same of a triangle of three vertices
abbrev pub vertex_pieces : State → ℕ → Vertex → Vertex → Vertex → List (List ClipVertex)
vertex_pieces s mode a b c = pieces_of mode (clip_vertex s a) (clip_vertex s b) (clip_vertex s c)

-- the kept pieces of a triangle of three vertices, in their order, in window coordinates
unfoldable pub kept_pieces : State → ℕ → Vertex → Vertex → Vertex → List (List WindowVertex)
kept_pieces s mode a b c = filter_map (kept_at s) (vertex_pieces s mode a b c)

-- the same of three vertices of a block, by their indices
abbrev pub kept_corners_of : State → Block → List ℕ → List (List WindowVertex)
kept_corners_of s block t =
    kept_pieces s block.mode (vertex_at block.vertices (slice_index t 0)) (vertex_at block.vertices (slice_index t 1)) (vertex_at block.vertices (slice_index t 2))

-- The kept triangles of a block, in the order of its triangles and of each one's pieces.
abbrev pub kept_triangles : State → Block → List (List WindowVertex)
kept_triangles s block = flat_map (kept_corners_of s block) (triangles_in block)
