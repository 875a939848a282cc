-- Triangles that lie beside a rectangle's pixels, all corners on one side.
use Rattle.std.specs.Prelude.{◌≡◌, List, ℕ, ℤ, pos, ◌-ℤ◌, ◌<ℤ◌, ◌⊎◌, Some}
use Rattle.rc_base.specs.Drawing.Cover.{centre, corner, triangle_area}
use Rattle.rc_base.specs.Drawing.Kept.{kept_whole}
use Rattle.rc_base.specs.declared.state.State.{State}
use Rattle.rc_base.specs.declared.state.Vertex.{Vertex}
use Rattle.rc_base.specs.declared.window.Rect.{Rect}
use Rattle.rc_base.specs.declared.window.WindowVertex.{WindowVertex}
use Rattle.geometry.specs.declared.near.Surrounds.{Surrounds}

-- the centres of the rectangle's first and last columns and rows
pub record AreSurrounds (rect : Rect) (near : Surrounds) : Type 0 where
  pub left : near.left ≡ centre rect.x0
  pub right : near.right ≡ centre (rect.x1 -ℤ pos 1)
  pub bottom : near.bottom ≡ centre rect.y0
  pub top : near.top ≡ centre (rect.y1 -ℤ pos 1)

-- three numbers are less than a bound
abbrev pub AreLess : ℤ → ℤ → ℤ → ℤ → Type 0
AreLess a b c bound = (a <ℤ bound) × (b <ℤ bound) × (c <ℤ bound)

-- three numbers are greater than a bound
abbrev pub AreGreater : ℤ → ℤ → ℤ → ℤ → Type 0
AreGreater a b c bound = (bound <ℤ a) × (bound <ℤ b) × (bound <ℤ c)

-- three numbers lie on one side of what is between two bounds
abbrev pub AreOutside : ℤ → ℤ → ℤ → ℤ → ℤ → Type 0
AreOutside a b c low high = AreLess a b c low ⊎ AreGreater a b c high

-- the three corners lie left of the centres or right of them, or below them or above them
abbrev pub AreBeside : Surrounds → List WindowVertex → Type 0
AreBeside near v =
    AreOutside (corner v 0).x (corner v 1).x (corner v 2).x near.left near.right
    ⊎ AreOutside (corner v 0).y (corner v 1).y (corner v 2).y near.bottom near.top

-- where the triangle of three vertices is kept, it has an area, and lies beside
abbrev pub IsBesideIfKept : State → List Vertex → List ℕ → Surrounds → Type 0
IsBesideIfKept s vs t near = (v : List WindowVertex) → kept_whole s vs t ≡ Some v → (pos 0 <ℤ triangle_area v) × AreBeside near v
