-- The parts of a frame, one for each tile, and the pixels that they have.
use Rattle.std.specs.Prelude.{◌≡◌, ℕ, ◌+◌, ◌-◌, ◌*◌, true, List, [], length, replicate, Some, slice_get, slice_index_or, ℤ, pos}
use Rattle.std.specs.Option.{option_map_or}
use Rattle.rc_base.specs.Numbers.{natural}
use Rattle.rc_base.specs.Drawing.Images.{Pixels, rgb_bytes}
use Rattle.rc_base.specs.Drawing.Serial.{blank_pixel}
use Rattle.rc_base.specs.Cluster.Tiles.{boundary_of, tile_at, tile_column, tile_count, tile_pixels, tile_row}
use Rattle.rc_base.specs.declared.cluster.TilePart.{TilePart}
use Rattle.rc_base.specs.declared.image.Image.{Image}
use Rattle.rc_base.specs.declared.window.Layout.{Layout}
use Rattle.rc_base.specs.declared.window.Pixel.{Pixel}

-- how many columns or rows of pixels part j of a side has
abbrev pub part_size : ℕ → ℕ → ℕ → ℕ
part_size side parts j = boundary_of side parts (j + 1) - boundary_of side parts j

abbrev pub tile_width : Layout → ℕ → ℕ
tile_width l tile = part_size l.width l.columns (tile_column l tile)

abbrev pub tile_height : Layout → ℕ → ℕ
tile_height l tile = part_size l.height l.rows (tile_row l tile)

-- one part for each tile, in the order of the tiles, all of one frame, each with its tile's number of pixels
pub record AreParts (l : Layout) (parts : List TilePart) : Type 0 where
  pub frame : ℕ
  pub count : length parts ≡ tile_count l
  pub each : (tile : ℕ) (p : TilePart) → slice_get parts tile ≡ Some p → (p.tile ≡ tile) × (p.frame ≡ frame) × (length p.pixels ≡ tile_width l tile * tile_height l tile)

-- one part for each tile, in the order of the tiles, each with its tile's number of pixels
pub record ArePartsOf (l : Layout) (parts : List TilePart) : Type 0 where
  pub count : length parts ≡ tile_count l
  pub size : (tile : ℕ) (p : TilePart) → slice_get parts tile ≡ Some p → length p.pixels ≡ tile_width l tile * tile_height l tile

-- where a pixel of the window stands in the part of its tile: rows from the bottom, in each row from the left
abbrev pub place_in_part : Layout → ℕ → ℕ → ℕ → ℕ
place_in_part l tile x y =
    (y - boundary_of l.height l.rows (tile_row l tile)) * tile_width l tile + (x - boundary_of l.width l.columns (tile_column l tile))

-- the parts have these pixels of the window, each in the part of its tile
abbrev pub ShowPixels : Layout → List TilePart → (ℤ → ℤ → Pixel) → Type 0
ShowPixels l parts pixels =
    (tile x y : ℕ) (p : TilePart) → slice_get parts tile ≡ Some p → tile_pixels l tile x y ≡ true
    → slice_get p.pixels (place_in_part l tile x y) ≡ Some (pixels (pos x) (pos y))

-- the pixels of a tile's part
abbrev pub pixels_of : List TilePart → ℕ → List Pixel
pixels_of parts tile = option_map_or (λ (p : TilePart). p.pixels) (slice_get parts tile) []

-- what the parts show at a pixel of the window: that of the part of its tile
abbrev pub shown : Layout → List TilePart → ℤ → ℤ → Pixel
shown l parts x y =
    let tile = tile_at l (natural x) (natural y) in
    slice_index_or (pixels_of parts tile) (place_in_part l tile (natural x) (natural y)) blank_pixel

-- the image of the window that has these bytes
abbrev pub image_with : Layout → List ℕ → Image
image_with l bytes = record { width = l.width; height = l.height; rgb = bytes }

-- the image of these pixels of the window
abbrev pub window_image : Layout → Pixels → Image
window_image l pixels = image_with l (rgb_bytes pixels l.width l.height)

-- the image of parts: each pixel from its tile's part
abbrev pub picture : Layout → List TilePart → Image
picture l parts = window_image l (shown l parts)

-- the image of the window that is black all over
abbrev pub black_image : Layout → Image
black_image l = image_with l (replicate (3 * l.width * l.height) 0)

-- an image with the window's sides and their number of bytes
pub record IsRoomFor (l : Layout) (image : Image) : Type 0 where
  pub width : image.width ≡ l.width
  pub height : image.height ≡ l.height
  pub bytes : length image.rgb ≡ 3 * l.width * l.height
