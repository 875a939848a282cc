-- Vertices that stand in front of the near plane.
use Rattle.std.proofs.Common.{◌≡◌, List, false, ap, ℤ, pos, arith}
use Rattle.std.specs.Prelude.{◌≤ℤ◌}
use Rattle.rc_base.specs.Numbers.{entry}
use Rattle.rc_base.specs.Drawing.Pieces.{is_cuttable, is_in_front}
use Rattle.rc_base.specs.Drawing.Window.{clip_of, is_placed, is_placed_at}
use Rattle.rc_base.specs.declared.state.State.{State}
use Rattle.rc_base.specs.declared.state.Vertex.{Vertex}
use Rattle.geometry.specs.Placed.{are_small, are_in_front, stands_in_front}

pub stands : (s : State) (v : Vertex) (l : List ℤ) → l ≡ clip_of s v → are_in_front l ≡ stands_in_front s v
unfolding stands_in_front is_cuttable is_in_front are_small are_in_front
stands s v l e = ap are_in_front e

-- a vertex at the eye or behind it isn't placed, and doesn't stand in front
pub unplaced : (s : State) (v : Vertex) → entry (clip_of s v) 3 ≤ℤ pos 0 → is_placed s v ≡ false
unfolding is_placed is_placed_at
unplaced s v le = grind arith

pub behind : (s : State) (v : Vertex) → entry (clip_of s v) 3 ≤ℤ pos 0 → stands_in_front s v ≡ false
unfolding stands_in_front is_in_front
behind s v le = grind arith
