-- What is promised of the pieces of a triangle.
use Rattle.std.specs.Prelude.{◌≡◌, ℕ, true, false, List, [], ◌∷◌, ◌++◌, Option, Some, None, MatchOption, slice_get}
use Rattle.std.specs.List.{filter_map}
use Rattle.std.specs.Option.{option_map_or}
use Rattle.rc_base.specs.Drawing.Cover.{IsInBounds}
use Rattle.rc_base.specs.declared.state.State.{State}
use Rattle.rc_base.specs.declared.state.Vertex.{Vertex}
use Rattle.rc_base.specs.declared.triangle.WindowTriangle.{WindowTriangle}
use Rattle.rc_base.specs.declared.window.WindowVertex.{WindowVertex}
use Rattle.rc_base.specs.declared.window.ClipVertex.{ClipVertex}
use Rattle.geometry.specs.declared.cut_triangle.Pieces.{Pieces}
use Rattle.geometry.specs.declared.cutting.Point.{Point}
use Rattle.rc_base.specs.Drawing.Pieces.{vertex_pieces}
use Rattle.rc_base.specs.Drawing.Window.{window_at, is_placed_at}
use Rattle.rc_base.specs.Drawing.Kept.{kept_at, vertex_at}

-- where a vertex in clip coordinates stands in the window: nowhere, if it isn't placed
abbrev pub IsPlaceAt : State → ClipVertex → Option WindowVertex → Type 0
IsPlaceAt s c place = MatchOption place (is_placed_at s c ≡ false) (λ p. (is_placed_at s c ≡ true) × (p ≡ window_at s c) × IsInBounds p)

-- the point says where it stands
abbrev pub IsPoint : State → Point → Type 0
IsPoint s p = IsPlaceAt s p.vertex p.place

-- each of three points does
pub record ArePoints (s : State) (a b c : Point) : Type 0 where
  pub first : IsPoint s a
  pub second : IsPoint s b
  pub third : IsPoint s c

-- piece k of some, in window coordinates, where there is one and it is kept
abbrev pub kept_piece : State → List (List ClipVertex) → ℕ → Option (List WindowVertex)
kept_piece s pieces k = option_map_or (kept_at s) (slice_get pieces k) None

-- the triangle is piece k, and there is none exactly where piece k is missing or dropped
abbrev pub IsPiece : State → List (List ClipVertex) → ℕ → Option WindowTriangle → Type 0
IsPiece s pieces k r = MatchOption r (kept_piece s pieces k ≡ None) (λ t. kept_piece s pieces k ≡ Some t.v)

-- the pieces of the triangle of three vertices in a block of that mode, in clip coordinates
abbrev pub corner_pieces : State → ℕ → List Vertex → List (List ClipVertex)
corner_pieces s mode vs = vertex_pieces s mode (vertex_at vs 0) (vertex_at vs 1) (vertex_at vs 2)

-- the corners of a triangle, if there is one
abbrev pub found : Option WindowTriangle → List (List WindowVertex)
found r = option_map_or (λ (t : WindowTriangle). t.v ∷ []) r []

-- those of both pieces
abbrev pub found_in : Pieces → List (List WindowVertex)
found_in p = found p.first ++ found p.second

-- the triangles are those of the pieces that are kept
pub record ArePieces (s : State) (pieces : List (List ClipVertex)) (p : Pieces) : Type 0 where
  pub first : IsPiece s pieces 0 p.first
  pub second : IsPiece s pieces 1 p.second
  pub all : filter_map (kept_at s) pieces ≡ found_in p
