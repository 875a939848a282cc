-- The rows of one column of a grid of pixels: what the loops over them take and leave.
use Rattle.std.specs.Prelude.{◌≡◌, ℕ, ◌+◌, ◌*◌, ◌^◌, ◌<◌, ◌≤◌, length, List, Bool, Option, ℤ, pos, true}
use Rattle.rc_base.specs.Pictures.{Picture}
use Rattle.rc_base.specs.Drawing.Cover.{is_inside}
use Rattle.rc_base.specs.Drawing.Fragment.{fragment_of}
use Rattle.rc_base.specs.declared.command.Rgba.{Rgba}
use Rattle.rc_base.specs.declared.state.State.{State}
use Rattle.rc_base.specs.declared.window.Fragment.{Fragment}
use Rattle.rc_base.specs.declared.window.Pixel.{Pixel}
use Rattle.rc_base.specs.declared.window.Rect.{Rect}
use Rattle.rc_base.specs.declared.window.WindowVertex.{WindowVertex}
use Rattle.raster.specs.Colors.{IsColorRise}
use Rattle.raster.specs.Spans.{IsOnlyColumn}
use Rattle.raster.specs.declared.color.ColorRamp.{ColorRamp}
use Rattle.raster.specs.declared.column.Column.{Column}
use Rattle.draw_device.specs.Pixels.{pixel_at, color_at, pixels_of}
use Rattle.draw_device.specs.Shapes.{fragment_pixel}
use Rattle.draw_device.specs.declared.column_run.ColumnRun.{ColumnRun}
use Rattle.draw_device.specs.declared.grid.Extent.{Extent}

-- the index of the column's pixel in row k
abbrev pub place_in : ColumnRun → ℕ → ℕ
place_in r k = k * r.width + r.across

-- the fragment at row k of the column
abbrev pub column_fragment : List WindowVertex → ColumnRun → ℕ → Fragment
column_fragment v r k = fragment_of v (pos (r.left + r.across)) (pos (r.bottom + k))

-- the triangle's colour there
abbrev pub column_color : List WindowVertex → ColumnRun → ℕ → Rgba
column_color v r k = (column_fragment v r k).color

-- whether the triangle covers the pixel there
abbrev pub is_column_inside : List WindowVertex → ColumnRun → ℕ → Bool
is_column_inside v r k = is_inside v (pos (r.left + r.across)) (pos (r.bottom + k))

-- the rows are in order, the column is one of the grid, and they are so few that no step of a plane is one too many
pub record IsColumnRun (r : ColumnRun) : Type 0 where
  pub order : r.from ≤ r.to
  pub inside : r.across < r.width
  pub few : r.across + r.to < 2 ^ 12

-- the run's column of the window
abbrev pub column_of : ColumnRun → Column
column_of r = record { x = pos (r.left + r.across); y0 = pos (r.bottom + r.from); y1 = pos (r.bottom + r.to) }

-- of a part of a grid's rectangle the triangle covers the rows and no other pixel
pub record IsOnlyRun (v : List WindowVertex) (g : Extent) (part : Rect) (r : ColumnRun) : Type 0 where
  pub run : IsColumnRun r
  pub left : r.left ≡ g.left
  pub bottom : r.bottom ≡ g.bottom
  pub width : r.width ≡ g.width
  pub top : r.to ≤ g.height
  pub only : IsOnlyColumn v part (column_of r)

-- the rows up to below `to` took a step, and no other pixel changed
pub record IsColumnStepped (step : ℤ → ℤ → Pixel → Pixel) (r : ColumnRun) (to : ℕ) (old new : List Pixel) : Type 0 where
  pub size : length new ≡ length old
  pub run : (k : ℕ) → r.from ≤ k → k < to
      → pixel_at new (place_in r k) ≡ step (pos (r.left + r.across)) (pos (r.bottom + k)) (pixel_at old (place_in r k))
  pub rest : (n : ℕ) → ((k : ℕ) → r.from ≤ k → k < to → ¬ (n ≡ place_in r k)) → pixel_at new n ≡ pixel_at old n

-- the rows after the fragments of a triangle, by colours alone, whatever the depths are
abbrev pub IsColumnDrawn : State → Option Picture → List WindowVertex → ColumnRun → List Rgba → List Rgba → Type 0
IsColumnDrawn s picture v r old new =
    (depths : List ℕ) → length depths ≡ length old → IsColumnStepped (fragment_pixel s picture v) r r.to (pixels_of old depths) (pixels_of new depths)

-- the rows up to below `to` have colours, and no other colour changed
pub record IsColumnColored (color : ℕ → Rgba) (r : ColumnRun) (to : ℕ) (old new : List Rgba) : Type 0 where
  pub size : length new ≡ length old
  pub run : (k : ℕ) → r.from ≤ k → k < to → color_at new (place_in r k) ≡ color k
  pub rest : (n : ℕ) → ((k : ℕ) → r.from ≤ k → k < to → ¬ (n ≡ place_in r k)) → color_at new n ≡ color_at old n

-- the triangle's colour at row k of the column
abbrev pub IsRiseAt : List WindowVertex → ColumnRun → ℕ → ColorRamp → Type 0
IsRiseAt v r k ramp = IsColorRise v (pos (r.left + r.across)) (pos (r.bottom + k)) (1 + r.across + k) ramp
