-- Which pixels a triangle covers, over exact whole numbers. Window coordinates are sixteenths of a pixel.
use Rattle.std.specs.Prelude.{ℕ, List, Bool, not, ◌&&◌, ◌||◌, ℤ, pos, ◌+ℤ◌, ◌-ℤ◌, ◌*ℤ◌, int_lt, int_le}
use Rattle.std.specs.Ordering.{int_eq}
use Rattle.rc_base.specs.declared.window.WindowVertex.{WindowVertex}
use Rattle.rc_base.specs.declared.state.State.{State}
use Rattle.rc_base.specs.Numbers.{Within, entry}
use Rattle.rc_base.specs.Drawing.Window.{place_bound, depth_bound}
use lib.ListN.{get_or}

-- of a point (px, py), for the edge from a to b: above 0 on its left, 0 on its line
abbrev pub edge_value : WindowVertex → WindowVertex → ℤ → ℤ → ℤ
edge_value a b px py = (b.x -ℤ a.x) *ℤ (py -ℤ a.y) -ℤ (b.y -ℤ a.y) *ℤ (px -ℤ a.x)

-- The top-left rule: an edge keeps the points on its line where it goes down, or is level and goes left. Of a counterclockwise triangle
-- these are the left edges and the top one.
abbrev pub keeps_line : WindowVertex → WindowVertex → Bool
keeps_line a b = int_lt (b.y -ℤ a.y) (pos 0) || (int_eq (b.y -ℤ a.y) (pos 0) && int_lt (b.x -ℤ a.x) (pos 0))

-- a point of that edge value lies on the inner side of an edge
abbrev pub passes : ℤ → Bool → Bool
passes e keeps = int_lt (pos 0) e || (int_eq e (pos 0) && keeps)

unfoldable pub is_within_edge : WindowVertex → WindowVertex → ℤ → ℤ → Bool
is_within_edge a b px py = passes (edge_value a b px py) (keeps_line a b)

-- the centre of a column or row of pixels
abbrev pub centre : ℤ → ℤ
centre x = pos 16 *ℤ x +ℤ pos 8

abbrev pub no_vertex : WindowVertex
no_vertex = record { x = pos 0; y = pos 0; z = pos 0; color = record { r = 0; g = 0; b = 0; a = 0 }; s = pos 0; t = pos 0 }

-- corner k of a triangle
abbrev pub corner : List WindowVertex → ℕ → WindowVertex
corner v k = get_or v k no_vertex

-- twice the signed area of a triangle: above 0 where its corners run counterclockwise
abbrev pub triangle_area : List WindowVertex → ℤ
triangle_area v = edge_value (corner v 0) (corner v 1) (corner v 2).x (corner v 2).y

-- the centre of pixel (x, y), anywhere in the plane, is inside the triangle
unfoldable pub is_inside : List WindowVertex → ℤ → ℤ → Bool
is_inside v x y =
    is_within_edge (corner v 0) (corner v 1) (centre x) (centre y)
    && (is_within_edge (corner v 1) (corner v 2) (centre x) (centre y)
    && is_within_edge (corner v 2) (corner v 0) (centre x) (centre y))

-- a vertex lies within the bounds of window coordinates
abbrev pub IsInBounds : WindowVertex → Type 0
IsInBounds a = Within place_bound a.x × Within place_bound a.y × Within depth_bound a.z

abbrev pub AreInBounds : List WindowVertex → Type 0
AreInBounds v = IsInBounds (corner v 0) × IsInBounds (corner v 1) × IsInBounds (corner v 2)

-- ---- the window, the viewport and the scissor box

-- pixel (x, y) lies in the area x, y, w, h
abbrev pub is_in_area : List ℤ → ℤ → ℤ → Bool
is_in_area area x y =
    (int_le (entry area 0) x && int_lt x (entry area 0 +ℤ entry area 2))
    && (int_le (entry area 1) y && int_lt y (entry area 1 +ℤ entry area 3))

-- the scissor test passes
abbrev pub is_in_scissor : State → ℤ → ℤ → Bool
is_in_scissor s x y = not s.scissor_on || is_in_area s.scissor x y

-- The cover of a triangle has the pixel (x, y) of the window. OpenGL clips to the viewport in x and y; here a fragment outside it is
-- discarded.
unfoldable pub covers : State → List WindowVertex → ℤ → ℤ → Bool
covers s v x y = is_inside v x y && (is_in_area s.viewport x y && is_in_scissor s x y)
