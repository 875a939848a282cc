-- The box of what a command draws, in a window.
use Rattle.std.specs.Prelude.{◌≡◌, ℕ, ◌<◌, Bool, true, false, ◌&&◌, ℤ, pos, Option, MatchOption}
use Rattle.rc_base.specs.Drawing.Touch.{touches}
use Rattle.rc_base.specs.Cluster.Tiles.{is_in_box, meets_tile, tile_count, tile_pixels, is_in_rect, rect_meets, window_rect}
use Rattle.rc_base.specs.declared.state.Effect.{Effect}
use Rattle.rc_base.specs.declared.state.State.{State}
use Rattle.rc_base.specs.declared.window.Layout.{Layout}
use Rattle.rc_base.specs.declared.window.Rect.{Rect}
use Rattle.bounds_bucket.specs.Ranges.{HasPixels}

-- the pixel of the window is in the box
abbrev pub is_boxed : State → Effect → Rect → ℤ → ℤ → Bool
is_boxed s effect window x y = is_in_rect window x y && is_in_box s effect x y

-- the rectangle has pixels, and they are those of the box
pub record IsBox (s : State) (effect : Effect) (window r : Rect) : Type 0 where
  pub some : HasPixels r
  pub pixels : (x y : ℤ) → is_in_rect r x y ≡ is_boxed s effect window x y

-- the box has no pixel
abbrev pub IsEmptyBox : State → Effect → Rect → Type 0
IsEmptyBox s effect window = (x y : ℤ) → is_boxed s effect window x y ≡ false

-- the rectangle of the box, or none where it is empty
abbrev pub IsBoxIfAny : State → Effect → Rect → Option Rect → Type 0
IsBoxIfAny s effect window o = MatchOption o (IsEmptyBox s effect window) (IsBox s effect window)

-- each pixel of the window that the command touches lies in the rectangle; without one it touches none
abbrev pub HoldsTouched : State → Effect → Rect → Option Rect → Type 0
HoldsTouched s effect window o =
    (x y : ℤ) → is_in_rect window x y ≡ true → touches s effect x y ≡ true → MatchOption o ⊥ (λ r. is_in_rect r x y ≡ true)

-- the whole window of a layout
abbrev pub whole_window : Layout → Rect
whole_window l = window_rect l.width l.height

-- in a layout of the window, the tiles that meet the rectangle are those that meet the box; without one none does
abbrev pub MeetsSameTiles : State → Effect → Rect → Option Rect → Type 0
MeetsSameTiles s effect window o =
    (l : Layout) (tile : ℕ) → whole_window l ≡ window → tile < tile_count l
    → MatchOption o (meets_tile l s effect tile ≡ false) (λ r. meets_tile l s effect tile ≡ rect_meets l r tile)

-- each pixel that a command touches lies in its box
abbrev pub TouchedPixelsLieInTheBox : Type 0
TouchedPixelsLieInTheBox =
    (s : State) (effect : Effect) (x y : ℤ) → touches s effect x y ≡ true → is_in_box s effect x y ≡ true

-- a tile that has a pixel that a command touches meets its box
abbrev pub TouchedTilesMeetTheBox : Type 0
TouchedTilesMeetTheBox =
    (l : Layout) (s : State) (effect : Effect) (tile x y : ℕ)
    → tile_pixels l tile x y ≡ true → touches s effect (pos x) (pos y) ≡ true → meets_tile l s effect tile ≡ true
