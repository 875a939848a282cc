-- Parts of tiles that stand among the bytes of the window, where they are written as they come.
use Rattle.std.specs.Prelude.{◌≡◌, ℕ, ◌+◌, ◌-◌, ◌*◌, ◌<◌, Bool, true, false, List, length, take, drop, Option, Some, slice_index_or}
use Rattle.rc_base.specs.Cluster.Tiles.{tile_count, tile_pixels}
use Rattle.rc_base.specs.Drawing.Images.{rgb_of}
use Rattle.rc_base.specs.Drawing.Serial.{blank_pixel}
use Rattle.rc_base.specs.declared.cluster.TilePart.{TilePart}
use Rattle.rc_base.specs.declared.window.Layout.{Layout}
use Rattle.assembler.specs.Parts.{place_in_part}
use Rattle.assembler.specs.Places.{fits, in_place, is_misfit}

-- where the bytes of a pixel begin: rows from the top, in each row from the left, three bytes a pixel
abbrev pub place_of_bytes : Layout → ℕ → ℕ → ℕ
place_of_bytes l x y = 3 * ((l.height - 1 - y) * l.width + x)

-- the bytes of a pixel of the window
abbrev pub bytes_at : Layout → List ℕ → ℕ → ℕ → List ℕ
bytes_at l bytes x y = take 3 (drop (place_of_bytes l x y) bytes)

-- the part of a tile stands among the bytes: each pixel of the tile has the bytes that it has in the part
abbrev pub IsDrawn : Layout → List ℕ → ℕ → TilePart → Type 0
IsDrawn l bytes tile p =
    (x y : ℕ) → tile_pixels l tile x y ≡ true → bytes_at l bytes x y ≡ rgb_of (slice_index_or p.pixels (place_in_part l tile x y) blank_pixel)

-- so does each part that is in its tile's place
abbrev pub AreDrawn : Layout → List (Option TilePart) → List ℕ → Type 0
AreDrawn l places bytes = (tile : ℕ) (p : TilePart) → in_place places tile ≡ Some p → IsDrawn l bytes tile p

-- the bytes of the pixels of all other tiles stay
abbrev pub StaysBeside : Layout → ℕ → List ℕ → List ℕ → Type 0
StaysBeside l tile old new =
    (x y : ℕ) → x < l.width → y < l.height → tile_pixels l tile x y ≡ false → bytes_at l new x y ≡ bytes_at l old x y

-- the layout has tiles, and these are as many bytes as the image of its window has
pub record AreBytesOf (l : Layout) (rgb : List ℕ) : Type 0 where
  pub columns : 0 < l.columns
  pub rows : 0 < l.rows
  pub room : length rgb ≡ 3 * l.width * l.height

-- and this is one of the tiles
pub record HaveTile (l : Layout) (tile : ℕ) (rgb : List ℕ) : Type 0 where
  pub window : AreBytesOf l rgb
  pub low : tile < tile_count l

-- The part in a tile's place is written, where it has its tile's number of pixels, and it is said whether it has another number. The bytes of all other
-- tiles stay.
pub record IsPlaceWritten (l : Layout) (tile : ℕ) (place : Option TilePart) (odd : Bool) (old new : List ℕ) : Type 0 where
  pub size : length new ≡ length old
  pub misfit : odd ≡ is_misfit l tile place
  pub drawn : (p : TilePart) → place ≡ Some p → fits l tile p ≡ true → IsDrawn l new tile p
  pub others : StaysBeside l tile old new
