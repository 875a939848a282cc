-- How tiles cut the window.
use Rattle.std.specs.Prelude.{◌≡◌, ℕ, ◌*◌, ◌<◌, ◌&&◌, Bool, true, nat_lt, pos}
use Rattle.std.specs.List.{list_any}
use Rattle.rc_base.specs.Cluster.Tiles.{tile_count, tile_pixels, interval_of, rect_meets}
use Rattle.rc_base.specs.declared.window.Layout.{Layout}
use Rattle.rc_base.specs.declared.window.Rect.{Rect}
use Rattle.bounds_bucket.specs.declared.range.Range.{Range}
use Rattle.bounds_bucket.specs.Ranges.{is_among}

-- the tile is one of the layout's and has the pixel
abbrev pub HasPixel : Layout → ℕ → ℕ → ℕ → Type 0
HasPixel l tile x y = (tile < l.columns * l.rows) × (tile_pixels l tile x y ≡ true)

abbrev pub EachPixelHasOneTile : Type 0
EachPixelHasOneTile =
    (l : Layout) (x y : ℕ) → 0 < l.columns → 0 < l.rows → x < l.width → y < l.height
    → (tile : ℕ) × HasPixel l tile x y × ((other : ℕ) → HasPixel l other x y → other ≡ tile)

-- the tile is one of the layout's and has a pixel of the area
abbrev pub meets_area : Layout → Rect → ℕ → Bool
meets_area l area tile = nat_lt tile (tile_count l) && rect_meets l area tile

-- a part of a side has a number of the range
abbrev pub part_meets : ℕ → ℕ → Range → ℕ → Bool
part_meets side parts range j = list_any (λ p. is_among range (pos p)) (interval_of side parts j)
