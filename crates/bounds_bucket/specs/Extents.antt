-- The least and greatest coordinates of the corners of kept triangles.
use Rattle.std.specs.Prelude.{◌≡◌, ◌≤ℤ◌, ℕ, Bool, ◌&&◌, List, [], ◌∷◌, ◌++◌, map, ℤ, int_le, Option, None, Some}
use Rattle.std.specs.List.{flat_map}
use Rattle.rc_base.specs.Lists.{IsIn}
use Rattle.rc_base.specs.Drawing.Cover.{centre, corner}
use Rattle.rc_base.specs.declared.state.Block.{Block}
use Rattle.rc_base.specs.declared.state.State.{State}
use Rattle.rc_base.specs.declared.window.WindowVertex.{WindowVertex}
use Rattle.rc_base.specs.Drawing.Pieces.{kept_corners_of}
use Rattle.rc_base.specs.Cluster.Tiles.{corners_in}
use Rattle.bounds_bucket.specs.declared.extent.Ends.{Ends}
use Rattle.bounds_bucket.specs.declared.extent.Extent.{Extent}

-- the least and the greatest of these numbers
pub record IsHull (e : Ends) (zs : List ℤ) : Type 0 where
  pub encloses : (z : ℤ) → IsIn z zs → (e.least ≤ℤ z) × (z ≤ℤ e.greatest)
  pub least : IsIn e.least zs
  pub greatest : IsIn e.greatest zs

-- a coordinate of a triangle's corners
abbrev pub corner_values : (WindowVertex → ℤ) → List WindowVertex → List ℤ
corner_values f v = f (corner v 0) ∷ f (corner v 1) ∷ f (corner v 2) ∷ []

-- what these corners span; nothing where there are none
abbrev pub Spans : List WindowVertex → Option Extent → Type 0
Spans corners None = corners ≡ []
Spans corners (Some e) = IsHull e.across (map (λ (v : WindowVertex). v.x) corners) × IsHull e.up (map (λ (v : WindowVertex). v.y) corners)

-- what corners span with these besides
abbrev pub IsGrown : List WindowVertex → Option Extent → Option Extent → Type 0
IsGrown more before after = (corners : List WindowVertex) → Spans corners before → Spans (corners ++ more) after

-- what all corners span that two extents span
abbrev pub IsJoined : Extent → Extent → Extent → Type 0
IsJoined a b e = (us vs : List WindowVertex) → Spans us (Some a) → Spans vs (Some b) → Spans (us ++ vs) (Some e)

-- the corners of the kept triangles of some of a block's triples of vertices
abbrev pub corners_from : State → Block → List (List ℕ) → List WindowVertex
corners_from s block ts = corners_in (flat_map (kept_corners_of s block) ts)

-- the centre of a pixel lies between the ends
abbrev pub is_between : Ends → ℤ → Bool
is_between e p = int_le e.least (centre p) && int_le (centre p) e.greatest

-- the centre of a pixel lies in the extent
abbrev pub is_within : Extent → ℤ → ℤ → Bool
is_within e x y = is_between e.across x && is_between e.up y
