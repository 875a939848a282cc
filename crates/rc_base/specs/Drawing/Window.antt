-- From a vertex to the window, over exact whole numbers.
use Rattle.std.specs.Prelude.{ℕ, List, Bool, ◌&&◌, ◌^◌, ℤ, pos, ◌+ℤ◌, ◌-ℤ◌, ◌*ℤ◌, int_lt}
use Rattle.rc_base.specs.Numbers.{floor_quotient, is_within, entry, transformed}
use Rattle.rc_base.specs.declared.state.State.{State}
use Rattle.rc_base.specs.declared.state.Vertex.{Vertex}
use Rattle.rc_base.specs.declared.window.ClipVertex.{ClipVertex}
use Rattle.rc_base.specs.declared.window.WindowVertex.{WindowVertex}

-- clip coordinates x, y, z, w: the position by the modelview and then by the projection matrix
unfoldable pub clip_of : State → Vertex → List ℤ
clip_of s v = transformed s.projection.m (transformed s.modelview.m v.pos)

-- a window coordinate in sixteenths of a pixel, from a clip coordinate, for w above 0
unfoldable pub axis_of : ℤ → ℤ → ℤ → ℤ → ℤ
axis_of origin size x w = pos 16 *ℤ origin +ℤ floor_quotient ((x +ℤ w) *ℤ size *ℤ pos 16) (pos 2 *ℤ w)

-- the greatest depth that a buffer holds: 24 bits
abbrev pub depth_most : ℕ
depth_most = 16777215

-- a depth: 0 at the near end of the depth range's clip coordinate and 16777215 at its far end, where the range is 0 to 1
unfoldable pub depth_of : ℤ → ℤ → ℤ → ℤ → ℤ
depth_of near far z w = floor_quotient (((far -ℤ near) *ℤ z +ℤ (near +ℤ far) *ℤ w) *ℤ pos depth_most) (pos 131072 *ℤ w)

-- a vertex in clip coordinates
abbrev pub clip_vertex : State → Vertex → ClipVertex
clip_vertex s v = record {
  x = entry (clip_of s v) 0;
  y = entry (clip_of s v) 1;
  z = entry (clip_of s v) 2;
  w = entry (clip_of s v) 3;
  color = v.color;
  s = v.s;
  t = v.t;
}

-- the vertex in window coordinates, where the clip coordinate w is above 0
unfoldable pub window_at : State → ClipVertex → WindowVertex
window_at s c = record {
  x = axis_of (entry s.viewport 0) (entry s.viewport 2) c.x c.w;
  y = axis_of (entry s.viewport 1) (entry s.viewport 3) c.y c.w;
  z = depth_of (entry s.depth_range 0) (entry s.depth_range 1) c.z c.w;
  color = c.color;
  s = c.s;
  t = c.t;
}

-- the bounds of window coordinates: of places in sixteenths of a pixel, and of depths
abbrev pub place_bound : ℕ
place_bound = 2 ^ 20

abbrev pub depth_bound : ℕ
depth_bound = 2 ^ 30

abbrev pub is_in_bounds : WindowVertex → Bool
is_in_bounds v = is_within place_bound v.x && (is_within place_bound v.y && is_within depth_bound v.z)

-- the vertex stands before the eye and within the bounds
unfoldable pub is_placed_at : State → ClipVertex → Bool
is_placed_at s c = int_lt (pos 0) c.w && is_in_bounds (window_at s c)

-- the same of vertices as they are issued
unfoldable pub window_of : State → Vertex → WindowVertex
window_of s v = window_at s (clip_vertex s v)

unfoldable pub is_placed : State → Vertex → Bool
is_placed s v = is_placed_at s (clip_vertex s v)
