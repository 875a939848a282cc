-- Vertices brought to the window, and the matrices that are not worth a product.
use Rattle.std.specs.Prelude.{◌≡◌, ◌<◌, ◌^◌, true, false, List, length, slice_index, ℕ, ℤ, pos, ◌<ℤ◌, int_le, Bool, ◌&&◌, Option, MatchOption}
use Rattle.rc_base.specs.Numbers.{entry, is_within, transformed, Within}
use Rattle.rc_base.specs.Drawing.Cover.{IsInBounds}
use Rattle.rc_base.specs.Drawing.Kept.{vertex_at}
use Rattle.rc_base.specs.Drawing.Pieces.{clip_bound, near_w, is_cuttable, is_in_front}
use Rattle.rc_base.specs.Drawing.Window.{clip_vertex, is_placed, window_of}
use Rattle.rc_base.specs.declared.state.State.{State}
use Rattle.rc_base.specs.declared.state.Vertex.{Vertex}
use Rattle.rc_base.specs.declared.window.WindowVertex.{WindowVertex}
use Rattle.fixed_math.specs.Bounds.{four}
use Rattle.geometry.specs.declared.cache.Corner.{Corner}
use Rattle.geometry.specs.declared.identities.Identities.{Identities}

-- the product of the matrix and a vector is the vector
abbrev pub FixesVectors : List ℤ → Type 0
FixesVectors m = (v : List ℤ) → transformed m v ≡ four v

-- the viewport's sides have 16 bits, and the depth range is from 0 to one
pub record IsUsual (s : State) : Type 0 where
  pub width : Within (2 ^ 16) (entry s.viewport 2)
  pub height : Within (2 ^ 16) (entry s.viewport 3)
  pub near : entry s.depth_range 0 ≡ pos 0
  pub far : entry s.depth_range 1 ≡ pos 65536

-- the matrices that are said to be the identity are it, and so are the viewport and the depth range usual that are said to be
pub record AreIdentities (s : State) (i : Identities) : Type 0 where
  pub modelview : i.modelview ≡ true → FixesVectors s.modelview.m
  pub projection : i.projection ≡ true → FixesVectors s.projection.m
  pub usual : i.usual ≡ true → IsUsual s

-- neither matrix is said to move a vector, and the viewport and the depth range are said to be usual ones
abbrev pub are_still : Identities → Bool
are_still i = i.modelview && (i.projection && i.usual)

-- a clip coordinate and w, which is above 0, each small enough for the products of the division
pub record IsClipRatio (z w : ℤ) : Type 0 where
  pub positive : pos 0 <ℤ w
  pub coordinate : Within (2 ^ 65) z
  pub divisor : Within (2 ^ 65) w

-- three corners lie within the bounds of window coordinates
pub record AreCornersInBounds (a b c : WindowVertex) : Type 0 where
  pub first : IsInBounds a
  pub second : IsInBounds b
  pub third : IsInBounds c

-- where a vertex stands in the window: nowhere, if it isn't placed
abbrev pub IsPlace : State → Vertex → Option WindowVertex → Type 0
IsPlace s v place = MatchOption place (is_placed s v ≡ false) (λ p. (is_placed s v ≡ true) × (p ≡ window_of s v) × IsInBounds p)

-- the vertex is in front of the near plane, and none of its clip coordinates is too large to be cut
unfoldable pub stands_in_front : State → Vertex → Bool
stands_in_front s v = is_cuttable (clip_vertex s v) && is_in_front (clip_vertex s v)

-- none of these clip coordinates is too large to be cut
unfoldable pub are_small : List ℤ → Bool
are_small c = is_within clip_bound (entry c 0) && (is_within clip_bound (entry c 1) && (is_within clip_bound (entry c 2) && is_within clip_bound (entry c 3)))

-- and they are in front of the near plane
unfoldable pub are_in_front : List ℤ → Bool
are_in_front c = are_small c && int_le (pos near_w) (entry c 3)

-- the corner says where the vertex of its index stands, and whether it stands in front
abbrev pub IsCorner : State → List Vertex → Corner → Type 0
IsCorner s vs c = IsPlace s (vertex_at vs c.index) c.at × (c.front ≡ stands_in_front s (vertex_at vs c.index))

-- the same where there is such a vertex
abbrev pub IsCached : State → List Vertex → Corner → Type 0
IsCached s vs c = c.index < length vs → IsCorner s vs c

-- all three vertices stand in front of the near plane, so that their triangle isn't cut
abbrev pub AllStandInFront : State → List Vertex → List ℕ → Type 0
AllStandInFront s vs t =
    (stands_in_front s (vertex_at vs (slice_index t 0)) ≡ true) × (stands_in_front s (vertex_at vs (slice_index t 1)) ≡ true)
    × (stands_in_front s (vertex_at vs (slice_index t 2)) ≡ true)
