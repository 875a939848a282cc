-- The colour of a triangle over the pixels, and what its corners have in common.
use Rattle.std.specs.Prelude.{◌≡◌, ℕ, ◌+◌, ◌^◌, ◌<◌, List, ℤ, pos, ◌+ℤ◌, ◌<ℤ◌, Bool, true, ◌==◌, ◌&&◌}
use Rattle.rc_base.specs.Numbers.{is_between}
use Rattle.rc_base.specs.Drawing.Cover.{corner, triangle_area, is_inside}
use Rattle.rc_base.specs.Drawing.Fragment.{fragment_of}
use Rattle.rc_base.specs.Drawing.Window.{depth_most}
use Rattle.rc_base.specs.declared.command.Rgba.{Rgba}
use Rattle.rc_base.specs.declared.window.WindowVertex.{WindowVertex}
use Rattle.rc_base.specs.declared.window.Fragment.{Fragment}
use Rattle.raster.specs.declared.color.ColorPlane.{ColorPlane}
use Rattle.raster.specs.declared.color.ColorRamp.{ColorRamp}
use Rattle.raster.specs.Planes.{IsBytePlane, IsByteRamp, IsByteRise}

-- the colour of a triangle from pixel (x, y) on
pub record IsColorPlane (v : List WindowVertex) (x y : ℤ) (p : ColorPlane) : Type 0 where
  pub r : IsBytePlane v x y (λ (c : WindowVertex). pos c.color.r) p.r
  pub g : IsBytePlane v x y (λ (c : WindowVertex). pos c.color.g) p.g
  pub b : IsBytePlane v x y (λ (c : WindowVertex). pos c.color.b) p.b
  pub a : IsBytePlane v x y (λ (c : WindowVertex). pos c.color.a) p.a

-- the colour at pixel (x, y), after so many steps, to be stepped along the row
pub record IsColorRamp (v : List WindowVertex) (x y : ℤ) (k : ℕ) (p : ColorRamp) : Type 0 where
  pub r : IsByteRamp v x y (λ (c : WindowVertex). pos c.color.r) k p.r
  pub g : IsByteRamp v x y (λ (c : WindowVertex). pos c.color.g) k p.g
  pub b : IsByteRamp v x y (λ (c : WindowVertex). pos c.color.b) k p.b
  pub a : IsByteRamp v x y (λ (c : WindowVertex). pos c.color.a) k p.a

-- the same, to be stepped up the column
pub record IsColorRise (v : List WindowVertex) (x y : ℤ) (k : ℕ) (p : ColorRamp) : Type 0 where
  pub r : IsByteRise v x y (λ (c : WindowVertex). pos c.color.r) k p.r
  pub g : IsByteRise v x y (λ (c : WindowVertex). pos c.color.g) k p.g
  pub b : IsByteRise v x y (λ (c : WindowVertex). pos c.color.b) k p.b
  pub a : IsByteRise v x y (λ (c : WindowVertex). pos c.color.a) k p.a

abbrev pub HasColor : Rgba → Fragment → Type 0
HasColor color f = color ≡ f.color

-- the colour of the fragment at the pixel, which the triangle covers, after fewer than 2^12 steps along the row, and up the column
abbrev pub IsRampColor : ColorRamp → Rgba → Type 0
IsRampColor r color =
    (v : List WindowVertex) (x y : ℤ) (k : ℕ) → IsColorRamp v x y k r → k < 2 ^ 12
    → pos 0 <ℤ triangle_area v → is_inside v x y ≡ true → HasColor color (fragment_of v x y)

abbrev pub IsRiseColor : ColorRamp → Rgba → Type 0
IsRiseColor r color =
    (v : List WindowVertex) (x y : ℤ) (k : ℕ) → IsColorRise v x y k r → k < 2 ^ 12
    → pos 0 <ℤ triangle_area v → is_inside v x y ≡ true → HasColor color (fragment_of v x y)

-- one step along the row, and one up the column
abbrev pub IsNextColorRamp : ColorRamp → ColorRamp → Type 0
IsNextColorRamp old new =
    (v : List WindowVertex) (x y : ℤ) (k : ℕ) → IsColorRamp v x y k old → IsColorRamp v (x +ℤ pos 1) y (k + 1) new

abbrev pub IsNextColorRise : ColorRamp → ColorRamp → Type 0
IsNextColorRise old new =
    (v : List WindowVertex) (x y : ℤ) (k : ℕ) → IsColorRise v x y k old → IsColorRise v x (y +ℤ pos 1) (k + 1) new

-- the triangle's fragments have one colour
abbrev pub AreFlat : List WindowVertex → Rgba → Type 0
AreFlat v color = (i j : ℤ) → is_inside v i j ≡ true → HasColor color (fragment_of v i j)

-- three colours are one
abbrev pub are_one : Rgba → Rgba → Rgba → Bool
are_one a b c =
    (a.r == b.r && b.r == c.r) && ((a.g == b.g && b.g == c.g) && ((a.b == b.b && b.b == c.b) && (a.a == b.a && b.a == c.a)))

-- the corners have one colour
abbrev pub has_one_color : List WindowVertex → Bool
has_one_color v = are_one (corner v 0).color (corner v 1).color (corner v 2).color

-- a depth in the buffer's range
abbrev pub is_depth : ℤ → Bool
is_depth z = is_between (pos 0) (pos depth_most) z

-- no fragment of the triangle has a depth outside the buffer's range
abbrev pub HasDepths : List WindowVertex → Type 0
HasDepths v = (x y : ℤ) → is_inside v x y ≡ true → is_depth (fragment_of v x y).depth ≡ true
