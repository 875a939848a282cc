-- What the weights of a triangle's corners say at a pixel, and where a rectangle may have covered pixels.
use Rattle.std.specs.Prelude.{◌≡◌, List, ℤ, ◌<ℤ◌}
use Rattle.rc_base.specs.Drawing.Cover.{centre, triangle_area}
use Rattle.rc_base.specs.Drawing.Fragment.{weight}
use Rattle.rc_base.specs.declared.window.Rect.{Rect}
use Rattle.rc_base.specs.declared.window.WindowVertex.{WindowVertex}
use Rattle.raster.specs.Clamped.{HoldsCover}
use Rattle.raster.specs.declared.weights.Weights.{Weights}

-- the weights of a triangle's corners at the centre of pixel (x, y), and its area
pub record IsWeighed (v : List WindowVertex) (x y : ℤ) (w : Weights) : Type 0 where
  pub first : w.first ≡ weight v 0 (centre x) (centre y)
  pub second : w.second ≡ weight v 1 (centre x) (centre y)
  pub third : w.third ≡ weight v 2 (centre x) (centre y)
  pub area : w.area ≡ triangle_area v

-- a part with columns and rows that has all covered pixels of `rect`, and of the rows below it
pub record HoldsSome (v : List WindowVertex) (rect part : Rect) : Type 0 where
  pub cover : HoldsCover v rect part
  pub columns : part.x0 <ℤ part.x1
  pub rows : part.y0 <ℤ part.y1
  pub above : rect.y0 <ℤ part.y1
