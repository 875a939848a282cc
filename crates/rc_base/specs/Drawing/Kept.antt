-- Which triangles are kept, and how they are turned.
use Rattle.std.specs.Prelude.{ℕ, slice_index, List, [], ◌∷◌, Bool, not, ◌&&◌, ◌||◌, ◌==◌, if◌then◌else◌, Option, Some, None, ℤ, pos, int_lt}
use Rattle.std.specs.Ordering.{int_eq}
use lib.ListN.{get_or}
use Rattle.rc_base.specs.Colors.{rgba}
use Rattle.rc_base.specs.Drawing.Window.{clip_vertex, window_at, is_placed_at}
use Rattle.rc_base.specs.Drawing.Cover.{triangle_area}
use Rattle.rc_base.specs.declared.state.State.{State}
use Rattle.rc_base.specs.declared.state.Vertex.{Vertex}
use Rattle.rc_base.specs.declared.window.ClipVertex.{ClipVertex}
use Rattle.rc_base.specs.declared.window.WindowVertex.{WindowVertex}

abbrev pub three : WindowVertex → WindowVertex → WindowVertex → List WindowVertex
three a b c = a ∷ b ∷ c ∷ []

-- a triangle of that signed area is front-facing: its corners run counterclockwise (0), or clockwise
abbrev pub is_front : State → ℤ → Bool
is_front s area = if s.front_face == 0 then int_lt (pos 0) area else int_lt area (pos 0)

-- culling is on, and names the facing: FRONT (0), BACK (1), or both (2)
abbrev pub is_culled : State → ℤ → Bool
is_culled s area = s.cull_on && (s.cull_face == 2 || (if s.cull_face == 0 then is_front s area else not (is_front s area)))

-- a triangle of that signed area has an area and isn't culled
unfoldable pub is_shown : State → ℤ → Bool
is_shown s area = not (int_eq area (pos 0)) && not (is_culled s area)

-- corners 1 and 2 change places where they run clockwise, so that the area is above 0
unfoldable pub oriented : WindowVertex → WindowVertex → WindowVertex → List WindowVertex
oriented a b c = if int_lt (triangle_area (three a b c)) (pos 0) then three a c b else three a b c

abbrev pub no_clip_vertex : ClipVertex
no_clip_vertex = record { x = pos 0; y = pos 0; z = pos 0; w = pos 0; color = rgba 0 0 0 0; s = pos 0; t = pos 0 }

-- point k of a polygon in clip coordinates
abbrev pub point : List ClipVertex → ℕ → ClipVertex
point p k = get_or p k no_clip_vertex

-- A triangle isn't dropped: each corner stands before the eye and within the bounds, and it has an area and isn't culled.
unfoldable pub is_kept_at : State → List ClipVertex → Bool
is_kept_at s p =
    is_placed_at s (point p 0) && (is_placed_at s (point p 1) && (is_placed_at s (point p 2)
    && is_shown s (triangle_area (three (window_at s (point p 0)) (window_at s (point p 1)) (window_at s (point p 2))))))

-- the corners of a kept triangle in window coordinates, counterclockwise
unfoldable pub kept_at : State → List ClipVertex → Option (List WindowVertex)
kept_at s p =
    if is_kept_at s p then Some (oriented (window_at s (point p 0)) (window_at s (point p 1)) (window_at s (point p 2))) else None

-- three vertices as they are issued, in clip coordinates
abbrev pub clip_corners : State → Vertex → Vertex → Vertex → List ClipVertex
clip_corners s a b c = clip_vertex s a ∷ clip_vertex s b ∷ clip_vertex s c ∷ []

-- the corners of their triangle, where it is kept
unfoldable pub kept_of : State → Vertex → Vertex → Vertex → Option (List WindowVertex)
kept_of s a b c = kept_at s (clip_corners s a b c)

-- the vertex at an index of a block
abbrev pub vertex_at : List Vertex → ℕ → Vertex
vertex_at vs i = get_or vs i (record { pos = []; color = rgba 0 0 0 0; s = pos 0; t = pos 0 })

-- the corners of a triangle of a block, by the indices of its vertices, where it is kept
abbrev pub kept_whole : State → List Vertex → List ℕ → Option (List WindowVertex)
kept_whole s vs t = kept_of s (vertex_at vs (slice_index t 0)) (vertex_at vs (slice_index t 1)) (vertex_at vs (slice_index t 2))
