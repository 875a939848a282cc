-- A grid's pixels, and what contracts see of a device that is a grid.
use Rattle.std.specs.Prelude.{◌≡◌, ℕ, ◌*◌, List, ℤ, replicate}
use Rattle.rc_base.specs.Drawing.Serial.{blank_pixel}
use Rattle.rc_base.specs.Drawing.Window.{depth_most}
use Rattle.rc_base.specs.declared.window.Pixel.{Pixel}
use Rattle.draw_device.specs.Devices.{DeviceView}
use Rattle.draw_device.specs.Pixels.{pixel_at, pixels_of}
use Rattle.draw_device.specs.Shapes.{IsStepped, grid_rect}
use Rattle.draw_device.specs.declared.grid.Extent.{Extent}
use Rattle.draw_device.specs.declared.grid.Grid.{Grid}

-- the pixels, row by row from the lowest, each row from the left
abbrev pub grid_pixels : Grid → List Pixel
grid_pixels g = pixels_of g.colors.items g.depths.items

-- the pixel at an index of them
abbrev pub grid_pixel : Grid → ℕ → Pixel
grid_pixel g k = pixel_at (grid_pixels g) k

-- it is as far as can be
abbrev pub IsFarAt : Grid → ℕ → Type 0
IsFarAt g k = (grid_pixel g k).depth ≡ depth_most

-- all pixels of a grid that nothing was drawn at
abbrev pub blank_pixels : Extent → List Pixel
blank_pixels e = replicate (e.width * e.height) blank_pixel

-- each pixel of the grid took a step
abbrev pub IsDrawnBy : (ℤ → ℤ → Pixel → Pixel) → Grid → Grid → Type 0
IsDrawnBy step old new = IsStepped step old.extent (grid_pixels old) (grid_pixels new)

-- the same, and the grid stands where it stood
pub record IsDrawnInPlace (step : ℤ → ℤ → Pixel → Pixel) (old new : Grid) : Type 0 where
  pub extent : new.extent ≡ old.extent
  pub drawn : IsDrawnBy step old new

abbrev pub view_of : Grid → DeviceView
view_of g = record { rect = grid_rect g.extent; pixels = grid_pixels g }

-- a device that nothing was drawn at
abbrev pub blank_view : Extent → DeviceView
blank_view e = record { rect = grid_rect e; pixels = blank_pixels e }
