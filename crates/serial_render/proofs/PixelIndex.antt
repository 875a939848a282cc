-- Places in a window's list of pixels.
use Rattle.std.proofs.Common.{◌≡◌, ℕ, List, ◌+◌, ◌*◌, pos, ◌-ℤ◌, sym, ap, ◌∙◌, arith}
use Rattle.std.proofs.lemmas.Int.{ints}
use Rattle.rc_base.specs.Numbers.{natural}
use Rattle.rc_base.specs.Cluster.Tiles.{is_in_rect, window_rect}
use Rattle.rc_base.specs.Drawing.Images.{Pixels}
use Rattle.rc_base.specs.declared.command.Rgba.{Rgba}
use Rattle.rc_base.specs.declared.window.Pixel.{Pixel}
use Rattle.rc_base.specs.declared.window.Rect.{Rect}
use Rattle.draw_device.specs.Pixels.{pixel_at, color_at}
use Rattle.draw_device.specs.Devices.{DeviceView, pixel_index, pixel_of, rect_size}
use Rattle.scene_lemmas.proofs.Rectangles.{in_window}
use Rattle.serial_render.specs.Cells.{Shows}
use Rattle.serial_render.specs.Steps.{Holds}

from_zero : (n : ℕ) → natural (pos n -ℤ pos 0) ≡ n
from_zero n = grind (arith, ints)

pub window_size : (w h : ℕ) → rect_size (window_rect w h) ≡ w * h
window_size w h = ap (λ (n : ℕ). n * natural (pos h -ℤ pos 0)) (from_zero w) ∙ ap (λ (n : ℕ). w * n) (from_zero h)

pub index_is : (w h i j : ℕ) → pixel_index (window_rect w h) (pos i) (pos j) ≡ j * w + i
unfolding pixel_index
index_is w h i j =
    ap (λ (n : ℕ). n * natural (pos w -ℤ pos 0) + natural (pos i -ℤ pos 0)) (from_zero j)
    ∙ ap (λ (n : ℕ). j * n + natural (pos i -ℤ pos 0)) (from_zero w)
    ∙ ap (λ (n : ℕ). j * w + n) (from_zero i)

pub pixel_is : (d : DeviceView) (w h i j : ℕ) → d.rect ≡ window_rect w h → pixel_of d (pos i) (pos j) ≡ pixel_at d.pixels (j * w + i)
unfolding pixel_of
pixel_is d w h i j e = ap (λ (r : Rect). pixel_at d.pixels (pixel_index r (pos i) (pos j))) e ∙ ap (λ (k : ℕ). pixel_at d.pixels k) (index_is w h i j)

-- what a window's device holds its colours show
pub holds_shows : (d : DeviceView) (colors : List Rgba) (w h : ℕ) (picture : Pixels) → d.rect ≡ window_rect w h → ((k : ℕ) → color_at colors k ≡ (pixel_at d.pixels k).color)
    → Holds d picture → Shows w h colors picture
holds_shows d colors w h picture e each holds i j li lj =
    each (j * w + i)
    ∙ ap (λ (p : Pixel). p.color) (sym (pixel_is d w h i j e) ∙ holds (pos i) (pos j) (ap (λ (r : Rect). is_in_rect r (pos i) (pos j)) e ∙ in_window w h i j li lj))
