-- What contracts see of a device: its rectangle, and the pixels in it, row by row from the lowest, each row from the left.
use Rattle.std.specs.Prelude.{◌≡◌, true, ℕ, ◌+◌, ◌*◌, ◌≤◌, List, ℤ, pos, ◌-ℤ◌, ◌≤ℤ◌}
use Rattle.rc_base.specs.Numbers.{natural}
use Rattle.rc_base.specs.Cluster.Tiles.{is_in_rect}
use Rattle.rc_base.specs.Drawing.Serial.{blank_pixel}
use Rattle.rc_base.specs.Drawing.Window.{depth_most}
use Rattle.rc_base.specs.declared.cluster.TilePart.{TilePart}
use Rattle.rc_base.specs.declared.window.Pixel.{Pixel}
use Rattle.rc_base.specs.declared.window.Rect.{Rect}
use Rattle.draw_device.specs.Pixels.{pixel_at}

pub record DeviceView : Type 0 where
  pub rect : Rect
  pub pixels : List Pixel

-- the rectangle's sides are ordered, and it lies in the largest window
pub record IsDeviceRect (r : Rect) : Type 0 where
  pub left : pos 0 ≤ℤ r.x0
  pub across : r.x0 ≤ℤ r.x1
  pub right : r.x1 ≤ℤ pos 65535
  pub bottom : pos 0 ≤ℤ r.y0
  pub upward : r.y0 ≤ℤ r.y1
  pub top : r.y1 ≤ℤ pos 65535

-- how many pixels a rectangle has
abbrev pub rect_size : Rect → ℕ
rect_size r = natural (r.x1 -ℤ r.x0) * natural (r.y1 -ℤ r.y0)

-- the index of the pixel (x, y) of a rectangle
unfoldable pub pixel_index : Rect → ℤ → ℤ → ℕ
pixel_index r x y = natural (y -ℤ r.y0) * natural (r.x1 -ℤ r.x0) + natural (x -ℤ r.x0)

-- the pixel (x, y) of the window, where the device's rectangle has it
unfoldable pub pixel_of : DeviceView → ℤ → ℤ → Pixel
pixel_of d x y = pixel_at d.pixels (pixel_index d.rect x y)

-- each pixel of the rectangle took a step
abbrev pub EachTakes : (ℤ → ℤ → Pixel → Pixel) → DeviceView → DeviceView → Type 0
EachTakes step old new = (x y : ℤ) → is_in_rect old.rect x y ≡ true → pixel_of new x y ≡ step x y (pixel_of old x y)

-- each pixel of a rectangle is blank
abbrev pub IsBlankIn : Rect → DeviceView → Type 0
IsBlankIn r d = (x y : ℤ) → is_in_rect r x y ≡ true → pixel_of d x y ≡ blank_pixel

-- no depth lies beyond the far end
abbrev pub AreNear : DeviceView → Type 0
AreNear d = (x y : ℤ) → is_in_rect d.rect x y ≡ true → (pixel_of d x y).depth ≤ depth_most

-- the part of an image that a tile hands out of a frame
abbrev pub part_of : ℕ → ℕ → DeviceView → TilePart
part_of tile frame d = record { tile = tile; frame = frame; pixels = d.pixels }
