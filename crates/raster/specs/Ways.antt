-- What is prepared for the rows of a part.
use Rattle.std.specs.Prelude.{◌≡◌, ◌^◌, true, List, pos, ◌+ℤ◌, ◌-ℤ◌, ◌≤ℤ◌}
use Rattle.rc_base.specs.declared.window.Rect.{Rect}
use Rattle.rc_base.specs.declared.window.WindowVertex.{WindowVertex}
use Rattle.raster.specs.declared.column.Cut.{Cut}
use Rattle.raster.specs.declared.lanes.Lanes.{Lanes}
use Rattle.raster.specs.declared.slopes.Slopes.{Slopes}
use Rattle.raster.specs.declared.ways.Way.{Way}
use Rattle.raster.specs.declared.ways.Way.TheVariants as way
use Rattle.raster.specs.Clamped.{HoldsCover, IsFull}
use Rattle.raster.specs.Lanes.{AreLanes}
use Rattle.raster.specs.Slopes.{AreSlopes}

-- lanes are the triangle's, of a part of at most eight columns; slopes are, of one of at most 2^12
pub record IsWay (v : List WindowVertex) (part : Rect) (w : Way) : Type 0 where
  pub lanes : (l : Lanes) → w ≡ way.Lanes l → AreLanes v part.x0 part.y0 l
  pub narrow : (l : Lanes) → w ≡ way.Lanes l → part.x1 ≤ℤ (part.x0 +ℤ pos 8)
  pub slopes : (s : Slopes) → w ≡ way.Slopes s → AreSlopes v part.x0 part.y0 s
  pub wide : (s : Slopes) → w ≡ way.Slopes s → (part.x1 -ℤ part.x0) ≤ℤ pos (2 ^ 12)

-- a rectangle is cut to the part that the triangle may cover, and the part's way is found
pub record IsPrepared (v : List WindowVertex) (rect : Rect) (cut : Cut) (w : Way) : Type 0 where
  pub part : HoldsCover v rect cut.part
  pub way : IsWay v cut.part w
  pub full : cut.is_full ≡ true → IsFull v cut.part
