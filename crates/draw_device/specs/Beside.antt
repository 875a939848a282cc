-- Pixels of a run of a rectangle's pixels, and beside it.
use Rattle.std.specs.Prelude.{◌≡◌, ℕ, ◌<◌, ◌≤◌, ◌⊎◌, List, length, ℤ, true}
use Rattle.rc_base.specs.Cluster.Tiles.{is_in_rect}
use Rattle.rc_base.specs.Drawing.Nearer.{nearer}
use Rattle.rc_base.specs.Drawing.Window.{depth_most}
use Rattle.rc_base.specs.declared.window.Pixel.{Pixel}
use Rattle.rc_base.specs.declared.window.Rect.{Rect}
use Rattle.draw_device.specs.Devices.{DeviceView, pixel_index, pixel_of}
use Rattle.draw_device.specs.Pixels.{depth_at}
use Rattle.draw_device.specs.declared.pixel_run.PixelRun.{PixelRun}

-- a fact of each index from one to below another
abbrev pub EachIn : ℕ → ℕ → (ℕ → Type 0) → Type 0
EachIn from to fact = (k : ℕ) → from ≤ k → k < to → fact k

-- the place is one of the depths, or their end, and those before it are as far as can be
pub record AreFarBefore (depths : List ℕ) (place : ℕ) : Type 0 where
  pub most : place ≤ length depths
  pub far : (k : ℕ) → k < place → depth_at depths k ≡ depth_most

-- so are those behind it, and it isn't one before `from`
pub record AreFarBehind (depths : List ℕ) (from place : ℕ) : Type 0 where
  pub order : from ≤ place
  pub most : place ≤ length depths
  pub far : EachIn place (length depths) (λ k. depth_at depths k ≡ depth_most)

-- the pixels of the run become a layer's where those are nearer
abbrev pub TakesNearer : PixelRun → (ℕ → Pixel) → (ℕ → Pixel) → (ℕ → Pixel) → Type 0
TakesNearer run layer old new = EachIn run.from run.to (λ k. new k ≡ nearer (old k) (layer k))

-- the pixels before the run stay as they are
abbrev pub StayBefore : PixelRun → (ℕ → Pixel) → (ℕ → Pixel) → Type 0
StayBefore run old new = (k : ℕ) → k < run.from → new k ≡ old k

-- and those behind it
abbrev pub StayBehind : PixelRun → (ℕ → Pixel) → (ℕ → Pixel) → Type 0
StayBehind run old new = (k : ℕ) → run.to ≤ k → new k ≡ old k

-- the pixel (x, y) stands before the run, or behind it
abbrev pub IsBeside : PixelRun → Rect → ℤ → ℤ → Type 0
IsBeside run r x y = (pixel_index r x y < run.from) ⊎ (run.to ≤ pixel_index r x y)

-- a fact of each pixel of the rectangle beside the run
abbrev pub EachBeside : PixelRun → Rect → (ℤ → ℤ → Type 0) → Type 0
EachBeside run r fact = (x y : ℤ) → is_in_rect r x y ≡ true → IsBeside run r x y → fact x y

-- beside the run nothing was drawn: each pixel is as far as can be
abbrev pub IsFarBeside : PixelRun → DeviceView → Type 0
IsFarBeside run d = EachBeside run d.rect (λ x y. (pixel_of d x y).depth ≡ depth_most)
