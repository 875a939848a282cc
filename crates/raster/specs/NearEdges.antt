-- Edges that the near plane cuts: what is in front of an edge, and where pieces have it.
use Rattle.std.specs.Prelude.{◌≡◌, ℕ, ◌<◌, List, [], ◌∷◌, ◌&&◌, false, if◌then◌else◌, ◌⊎◌, Option, Some, None, IfSome, ℤ, pos, ◌<ℤ◌}
use Rattle.rc_base.specs.Drawing.Cover.{triangle_area, covers}
use Rattle.rc_base.specs.Drawing.Kept.{three, point, kept_at}
use Rattle.rc_base.specs.Drawing.Pieces.{is_in_front, crossing_point, polygon_of, fan_of}
use Rattle.rc_base.specs.Drawing.Window.{window_at}
use Rattle.rc_base.specs.declared.state.State.{State}
use Rattle.rc_base.specs.declared.window.ClipVertex.{ClipVertex}
use Rattle.rc_base.specs.declared.window.WindowVertex.{WindowVertex}
use Rattle.raster.specs.SharedEdge.{RunOpposite}

-- two vertices at one place before the eye; their depths, colours and texture coordinates may differ
pub record SameClipPlace (a b : ClipVertex) : Type 0 where
  pub x : a.x ≡ b.x
  pub y : a.y ≡ b.y
  pub w : a.w ≡ b.w

-- the part of an edge that is in front of the near plane, from one end to the other
abbrev pub front_edge : ClipVertex → ClipVertex → Option (ClipVertex × ClipVertex)
front_edge a b =
    if is_in_front a then (if is_in_front b then Some (a, b) else Some (a, crossing_point a b))
    else (if is_in_front b then Some (crossing_point b a, b) else None)

-- two parts have the same ends, the other way round; or there is neither
abbrev pub AreTurned : Option (ClipVertex × ClipVertex) → Option (ClipVertex × ClipVertex) → Type 0
AreTurned None None = Unit {0}
AreTurned (Some e) (Some f) = SameClipPlace e.0 f.1 × SameClipPlace e.1 f.0
AreTurned _ _ = ⊥

-- Two triangles that run through an edge in opposite directions share what is in front of it, its crossing with the near plane included.
abbrev pub FrontEdgesAreShared : Type 0
FrontEdgesAreShared = (a b a' b' : ClipVertex) → SameClipPlace a a' → SameClipPlace b b' → AreTurned (front_edge a b) (front_edge b' a')

-- the triangle has an edge from p to q
abbrev pub IsEdgeOf : List ClipVertex → ClipVertex → ClipVertex → Type 0
IsEdgeOf t p q = ((point t 0 ≡ p) × (point t 1 ≡ q)) ⊎ (((point t 1 ≡ p) × (point t 2 ≡ q)) ⊎ ((point t 2 ≡ p) × (point t 0 ≡ q)))

-- one of the triangles has it
abbrev pub HasEdge : List (List ClipVertex) → ClipVertex × ClipVertex → Type 0
HasEdge [] e = ⊥
HasEdge (t ∷ ts) e = IsEdgeOf t e.0 e.1 ⊎ HasEdge ts e

-- what is in front of each edge of a triangle is an edge of one of its pieces
abbrev pub FrontEdgesAreEdges : Type 0
FrontEdgesAreEdges =
    (a b c : ClipVertex)
    → IfSome (front_edge a b) (HasEdge (fan_of (polygon_of a b c))) × IfSome (front_edge b c) (HasEdge (fan_of (polygon_of a b c)))
    × IfSome (front_edge c a) (HasEdge (fan_of (polygon_of a b c)))

-- the signed area of three points in the window
abbrev pub area_at : State → ClipVertex → ClipVertex → ClipVertex → ℤ
area_at s a b c = triangle_area (three (window_at s a) (window_at s b) (window_at s c))

-- two kept pieces of one polygon that turn the same way run through the edge between them in opposite directions
abbrev pub DiagonalIsShared : Type 0
DiagonalIsShared =
    (s : State) (a b c d : ClipVertex) (v w : List WindowVertex) → kept_at s (a ∷ b ∷ c ∷ []) ≡ Some v → kept_at s (a ∷ c ∷ d ∷ []) ≡ Some w
    → (pos 0 <ℤ area_at s a b c → pos 0 <ℤ area_at s a c d → RunOpposite v 2 w 0)
    × (area_at s a b c <ℤ pos 0 → area_at s a c d <ℤ pos 0 → RunOpposite v 0 w 2)

-- two pieces turn the same way in the window
abbrev pub TurnAlike : State → List ClipVertex → List ClipVertex → Type 0
TurnAlike s t u =
    ((pos 0 <ℤ area_at s (point t 0) (point t 1) (point t 2)) × (pos 0 <ℤ area_at s (point u 0) (point u 1) (point u 2)))
    ⊎ ((area_at s (point t 0) (point t 1) (point t 2) <ℤ pos 0) × (area_at s (point u 0) (point u 1) (point u 2) <ℤ pos 0))

-- Of two triangles that run through an edge in opposite directions two kept pieces that have what is in front of it, and turn the same way, run through
-- it in opposite directions too: no pixel is covered by both. Where by rounding one of them turns the other way, some may be.
abbrev pub NeighboursShareTheirCut : Type 0
NeighboursShareTheirCut =
    (s : State) (a b a' b' : ClipVertex) (e f : ClipVertex × ClipVertex) (t u : List ClipVertex) (v w : List WindowVertex)
    → SameClipPlace a a' → SameClipPlace b b' → front_edge a b ≡ Some e → front_edge b' a' ≡ Some f → IsEdgeOf t e.0 e.1 → IsEdgeOf u f.0 f.1
    → kept_at s t ≡ Some v → kept_at s u ≡ Some w → TurnAlike s t u
    → ((i : ℕ) × (j : ℕ) × (i < 3) × (j < 3) × RunOpposite v i w j) × ((x y : ℤ) → (covers s v x y && covers s w x y) ≡ false)
