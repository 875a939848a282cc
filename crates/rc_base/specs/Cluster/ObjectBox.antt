-- The box of a block of version 2, in object space: interval arithmetic takes the bounding box of its vertices' positions to the window, as
-- Chromium bounds what it draws. No triangle is cut or divided.
use Rattle.std.specs.Prelude.{ℕ, ◌&&◌, ◌||◌, nat_lt, Bool, List, [], ◌∷◌, length, map, fold, slice_index, ℤ, pos, ◌+ℤ◌, ◌*ℤ◌, int_le, int_lt}
use Rattle.std.specs.Int.{int_min, int_max}
use Rattle.std.specs.List.{flat_map}
use Rattle.rc_base.specs.Numbers.{entry}
use Rattle.rc_base.specs.Drawing.Cover.{centre, is_in_area, is_in_scissor}
use Rattle.rc_base.specs.Drawing.Kept.{vertex_at}
use Rattle.rc_base.specs.declared.state.Block.{Block}
use Rattle.rc_base.specs.declared.state.State.{State}
use Rattle.rc_base.specs.declared.state.Vertex.{Vertex}
use Rattle.rc_base.specs.Intervals.{interval_at, transformed_over, quotient_over}
use Rattle.rc_base.specs.declared.interval.Interval.{Interval}
use Rattle.rc_base.specs.Drawing.Pieces.{near_w}
use Rattle.rc_base.specs.Drawing.Triangles.{triangles_in}

-- the vertices of a block that stand in a triangle, once for each corner
abbrev pub block_corners : Block → List Vertex
block_corners block =
    flat_map (λ t. vertex_at block.vertices (slice_index t 0) ∷ vertex_at block.vertices (slice_index t 1) ∷ vertex_at block.vertices (slice_index t 2) ∷ []) (triangles_in block)

-- coordinate c of the vertices' positions
abbrev pub coordinates : ℕ → List Vertex → List ℤ
coordinates c vs = map (λ (v : Vertex). entry v.pos c) vs

-- the least interval that holds some numbers, their hull
unfoldable pub hull_of : List ℤ → Interval
hull_of zs = record { lo = fold int_min (entry zs 0) zs; hi = fold int_max (entry zs 0) zs }

-- the bounding box of the positions of vertices, coordinate by coordinate
unfoldable pub bounding_box : List Vertex → List Interval
bounding_box vs =
    hull_of (coordinates 0 vs) ∷ hull_of (coordinates 1 vs) ∷ hull_of (coordinates 2 vs) ∷ hull_of (coordinates 3 vs) ∷ []

-- clip coordinates of all positions that lie in such intervals
unfoldable pub clip_over : State → List Interval → List Interval
clip_over s b = transformed_over s.projection.m (transformed_over s.modelview.m b)

-- what is divided, and by what, for the window coordinates of all places with a clip coordinate in one interval and w in another
abbrev pub dividends : ℤ → Interval → Interval → Interval
dividends size x w = record { lo = (x.lo +ℤ w.lo) *ℤ size *ℤ pos 16; hi = (x.hi +ℤ w.hi) *ℤ size *ℤ pos 16 }

abbrev pub divisors : Interval → Interval
divisors w = record { lo = pos 2 *ℤ w.lo; hi = pos 2 *ℤ w.hi }

-- the interval moved by a number
abbrev pub moved_by : ℤ → Interval → Interval
moved_by z i = record { lo = z +ℤ i.lo; hi = z +ℤ i.hi }

-- their window coordinates
unfoldable pub axis_over : ℤ → ℤ → Interval → Interval → Interval
axis_over origin size x w = moved_by (pos 16 *ℤ origin) (quotient_over (dividends size x w) (divisors w))

-- the number lies in the interval
abbrev pub is_enclosed : Interval → ℤ → Bool
is_enclosed i z = int_le i.lo z && int_le z i.hi

-- a point of these clip coordinates may not be in front of the near plane
abbrev pub may_be_near : List Interval → Bool
may_be_near d = int_lt (interval_at d 3).lo (pos near_w)

-- the centre of the pixel lies between the window coordinates of these clip coordinates
unfoldable pub is_amid_places : State → List Interval → ℤ → ℤ → Bool
is_amid_places s d x y =
    is_enclosed (axis_over (entry s.viewport 0) (entry s.viewport 2) (interval_at d 0) (interval_at d 3)) (centre x)
    && is_enclosed (axis_over (entry s.viewport 1) (entry s.viewport 3) (interval_at d 1) (interval_at d 3)) (centre y)

-- the pixel is in reach of these clip coordinates: where a point may be near, every pixel is
abbrev pub is_in_reach : State → List Interval → ℤ → ℤ → Bool
is_in_reach s d x y = may_be_near d || is_amid_places s d x y

-- the clip coordinates of a block's corners
abbrev pub block_clip : State → Block → List Interval
block_clip s block = clip_over s (bounding_box (block_corners block))

-- The pixel of the window is in the box of a block of version 2: the block has a triangle, the pixel is in reach of its corners' clip
-- coordinates, and it lies in the viewport and the scissor box.
unfoldable pub is_in_object_box : State → Block → ℤ → ℤ → Bool
is_in_object_box s block x y =
    nat_lt 0 (length (triangles_in block)) && (is_in_reach s (block_clip s block) x y && (is_in_area s.viewport x y && is_in_scissor s x y))
