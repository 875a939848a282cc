-- Windows whose images can be written, and what stands in front of their pixels.
use Rattle.std.specs.Prelude.{ℕ, ◌≤◌, List}
use Rattle.rc_base.specs.declared.window.Layout.{Layout}
use Rattle.ppm_out.specs.Pictures.{p6_header}

-- the sides of a window
pub record IsWindow (l : Layout) : Type 0 where
  pub width : (1 ≤ l.width) × (l.width ≤ 2048)
  pub height : (1 ≤ l.height) × (l.height ≤ 2048)

-- the header of the window's frames
abbrev pub frame_header : Layout → List ℕ
frame_header l = p6_header l.width l.height
