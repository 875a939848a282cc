-- What callers say of boxes.
use Rattle.std.specs.Prelude.{◌≡◌, true, ℤ, Option, Some}
use Rattle.rc_base.specs.Cluster.Tiles.{is_in_rect}
use Rattle.rc_base.specs.declared.window.Rect.{Rect}

-- there is a box, and it has the pixel
pub record HasPixel (o : Option Rect) (x y : ℤ) : Type 0 where
  pub area : Rect
  pub is : o ≡ Some area
  pub has : is_in_rect area x y ≡ true
