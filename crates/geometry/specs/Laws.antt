-- Laws of pieces: of the triangles that the near plane doesn't cut.
use Rattle.std.specs.Prelude.{◌≡◌, ℕ, ◌<◌, true, option_to_list}
use Rattle.rc_base.specs.Drawing.Kept.{kept_of}
use Rattle.rc_base.specs.Drawing.Pieces.{kept_pieces}
use Rattle.rc_base.specs.Drawing.Triangles.{cut_modes}
use Rattle.rc_base.specs.declared.state.State.{State}
use Rattle.rc_base.specs.declared.state.Vertex.{Vertex}
use Rattle.geometry.specs.Placed.{stands_in_front}

-- in a block of a mode whose triangles aren't cut, the kept piece is the triangle, where it is kept
abbrev pub WholeTrianglesAreTheirPiece : Type 0
WholeTrianglesAreTheirPiece =
    (s : State) (mode : ℕ) (a b c : Vertex) → mode < cut_modes → kept_pieces s mode a b c ≡ option_to_list (kept_of s a b c)

-- and so it is in a block of any mode, where all three vertices stand in front
abbrev pub FrontTrianglesAreTheirPiece : Type 0
FrontTrianglesAreTheirPiece =
    (s : State) (mode : ℕ) (a b c : Vertex) → stands_in_front s a ≡ true → stands_in_front s b ≡ true → stands_in_front s c ≡ true
    → kept_pieces s mode a b c ≡ option_to_list (kept_of s a b c)
