-- The law that a pixel on a common edge of two triangles belongs to exactly one of them.
use Rattle.std.specs.Prelude.{◌≡◌, ◌≢◌, ℕ, zero, suc, ◌<◌, List, Bool, true, false, not, ◌&&◌, ℤ, pos, ◌<ℤ◌}
use Rattle.rc_base.specs.Lists.{IsIn}
use Rattle.rc_base.specs.Drawing.Cover.{edge_value, is_inside, centre, corner, is_in_area, is_in_scissor, covers}
use Rattle.rc_base.specs.Drawing.Pieces.{kept_triangles}
use Rattle.rc_base.specs.declared.state.Block.{Block}
use Rattle.rc_base.specs.declared.state.State.{State}
use Rattle.rc_base.specs.declared.window.WindowVertex.{WindowVertex}

-- the corner after corner k, going round
abbrev pub next_corner : ℕ → ℕ
next_corner zero = 1
next_corner (suc zero) = 2
next_corner _ = 0

-- the value of the edge that starts at corner k, at the centre of pixel (x, y)
abbrev pub edge_at : List WindowVertex → ℕ → ℤ → ℤ → ℤ
edge_at v k x y = edge_value (corner v k) (corner v (next_corner k)) (centre x) (centre y)

-- two corners at one place of the window
abbrev pub SamePlace : WindowVertex → WindowVertex → Type 0
SamePlace a b = (a.x ≡ b.x) × (a.y ≡ b.y)

-- edge i of v and edge j of w have the same ends, and run in opposite directions
abbrev pub RunOpposite : List WindowVertex → ℕ → List WindowVertex → ℕ → Type 0
RunOpposite v i w j = SamePlace (corner v i) (corner w (next_corner j)) × SamePlace (corner v (next_corner i)) (corner w j)

-- the centre of the pixel is strictly inside the triangle's other edges
abbrev pub IsInsideOthers : List WindowVertex → ℕ → ℤ → ℤ → Type 0
IsInsideOthers v i x y = (k : ℕ) → k < 3 → k ≢ i → pos 0 <ℤ edge_at v k x y

-- the centre of the pixel lies on an edge that two triangles run through in opposite directions, and strictly inside their other edges
pub record IsOnSharedEdge (v : List WindowVertex) (i : ℕ) (w : List WindowVertex) (j : ℕ) (x y : ℤ) : Type 0 where
  pub edge : i < 3
  pub other_edge : j < 3
  pub opposite : RunOpposite v i w j
  pub on_line : edge_at v i x y ≡ pos 0
  pub inside_others : IsInsideOthers v i x y
  pub inside_others_too : IsInsideOthers w j x y

-- in the plane exactly one of the two triangles has the pixel
abbrev pub NoDoubleEdge : Type 0
NoDoubleEdge =
    (v w : List WindowVertex) (i j : ℕ) (x y : ℤ) → IsOnSharedEdge v i w j x y → is_inside v x y ≡ not (is_inside w x y)

-- the pixel lies in the viewport, and in the scissor box that is on
abbrev pub is_shown_at : State → ℤ → ℤ → Bool
is_shown_at s x y = is_in_area s.viewport x y && is_in_scissor s x y

-- Of two kept triangles of blocks, each by its own state, at most one covers the pixel, and exactly one where it lies in both viewports and in each
-- scissor box that is on. A kept triangle may be a piece of one that is cut at the near plane.
abbrev pub NoDoubleCover : Type 0
NoDoubleCover =
    (s s' : State) (block block' : Block) (v w : List WindowVertex) (i j : ℕ) (x y : ℤ)
    → IsIn v (kept_triangles s block) → IsIn w (kept_triangles s' block') → IsOnSharedEdge v i w j x y
    → ((covers s v x y && covers s' w x y) ≡ false)
    × (is_shown_at s x y ≡ true → is_shown_at s' x y ≡ true → covers s v x y ≡ not (covers s' w x y))

-- Where two triangles run through an edge in opposite directions, no pixel is inside both, wherever it lies: so none is covered by both, each in its own
-- state.
abbrev pub NoneCoveredTwice : Type 0
NoneCoveredTwice =
    (v w : List WindowVertex) (i j : ℕ) (x y : ℤ) → i < 3 → j < 3 → RunOpposite v i w j
    → ((is_inside v x y && is_inside w x y) ≡ false) × ((s s' : State) → (covers s v x y && covers s' w x y) ≡ false)
