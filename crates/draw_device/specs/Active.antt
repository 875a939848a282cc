-- A layer by its active pixels.
use Rattle.std.specs.Prelude.{◌≡◌, ℕ, ◌+◌, ◌-◌, ◌<◌, ◌≤◌, length, ℤ, true}
use Rattle.rc_base.specs.Cluster.Tiles.{is_in_rect}
use Rattle.rc_base.specs.Drawing.Window.{depth_most}
use Rattle.rc_base.specs.declared.window.Pixel.{Pixel}
use Rattle.rc_base.specs.declared.window.Rect.{Rect}
use Rattle.draw_device.specs.Beside.{EachBeside, EachIn}
use Rattle.draw_device.specs.Devices.{pixel_index, rect_size}
use Rattle.draw_device.specs.Grids.{grid_pixel}
use Rattle.draw_device.specs.Pixels.{paired}
use Rattle.draw_device.specs.declared.active.ActivePixels.{ActivePixels}
use Rattle.draw_device.specs.declared.grid.Grid.{Grid}
use Rattle.draw_device.specs.declared.pixel_run.PixelRun.{PixelRun}

-- so many pixels from a place on
abbrev pub run_from : ℕ → ℕ → PixelRun
run_from from count = record { from = from; to = from + count }

-- the run that the active pixels stand in
abbrev pub active_run : ActivePixels → PixelRun
active_run a = run_from a.from (length a.colors.items)

-- an active pixel, by its place among all
abbrev pub active_at : ActivePixels → ℕ → Pixel
active_at a k = paired a.colors.items a.depths.items (k - a.from)

-- each has a colour and a depth, and they stand among so many pixels
pub record FitAmong (size : ℕ) (a : ActivePixels) : Type 0 where
  pub deep : length a.depths.items ≡ length a.colors.items
  pub room : a.from + length a.colors.items ≤ size

-- they are those of a run of a grid
pub record AreCopied (g : Grid) (run : PixelRun) (a : ActivePixels) : Type 0 where
  pub fit : FitAmong (length g.colors.items) a
  pub from_is : a.from ≡ run.from
  pub to_is : a.from + length a.colors.items ≡ run.to
  pub each : EachIn run.from run.to (λ k. active_at a k ≡ grid_pixel g k)

-- they are a layer over a rectangle whose pixels these are: where none of them stands the layer is as far as can be
pub record IsLayerOf (r : Rect) (picture : ℤ → ℤ → Pixel) (a : ActivePixels) : Type 0 where
  pub fit : FitAmong (rect_size r) a
  pub among : (x y : ℤ) → is_in_rect r x y ≡ true → a.from ≤ pixel_index r x y → pixel_index r x y < a.from + length a.colors.items
      → active_at a (pixel_index r x y) ≡ picture x y
  pub beside : EachBeside (active_run a) r (λ x y. (picture x y).depth ≡ depth_most)
