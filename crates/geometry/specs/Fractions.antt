-- Where an edge is cut.
use Rattle.std.specs.Prelude.{◌≡◌, ◌^◌, true, false, ℤ, pos, ◌≤ℤ◌, ◌<ℤ◌}
use Rattle.rc_base.specs.Numbers.{Within}
use Rattle.rc_base.specs.Drawing.Pieces.{is_cuttable, is_in_front}
use Rattle.rc_base.specs.declared.window.ClipVertex.{ClipVertex}

-- a number lies between two others, in whichever order they stand
abbrev pub IsBetweenEnds : ℤ → ℤ → ℤ → Type 0
IsBetweenEnds from to z = (low high : ℤ) → low ≤ℤ from → low ≤ℤ to → from ≤ℤ high → to ≤ℤ high → (low ≤ℤ z) × (z ≤ℤ high)

-- an edge crosses the near plane, from a vertex in front to one behind, and both have clip coordinates that can be cut
pub record CrossesNear (a b : ClipVertex) : Type 0 where
  pub front : is_in_front a ≡ true
  pub behind : is_in_front b ≡ false
  pub from : is_cuttable a ≡ true
  pub to : is_cuttable b ≡ true

-- a part of a whole, less than all of it
pub record IsFraction (part whole : ℤ) : Type 0 where
  pub small : Within (2 ^ 47) part
  pub low : pos 0 ≤ℤ part
  pub high : part <ℤ whole
