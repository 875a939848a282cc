-- Lists of pixels, and of their colours and depths.
use Rattle.std.specs.Prelude.{ℕ, List, [], ◌∷◌, Bool, false, slice_index_or}
use Rattle.rc_base.specs.Colors.{rgba}
use Rattle.rc_base.specs.declared.command.Rgba.{Rgba}
use Rattle.rc_base.specs.declared.window.Pixel.{Pixel}
use Rattle.fragment_ops.specs.DepthTests.{pixel}

-- what stands at an index
abbrev pub pixel_at : List Pixel → ℕ → Pixel
pixel_at pixels k = slice_index_or pixels k (record { color = rgba 0 0 0 0; depth = 0 })

abbrev pub color_at : List Rgba → ℕ → Rgba
color_at colors k = slice_index_or colors k (rgba 0 0 0 0)

abbrev pub depth_at : List ℕ → ℕ → ℕ
depth_at depths k = slice_index_or depths k 0

abbrev pub flag_at : List Bool → ℕ → Bool
flag_at flags k = slice_index_or flags k false

-- colours and depths, paired: the pixel at an index
abbrev pub paired : List Rgba → List ℕ → ℕ → Pixel
paired colors depths k = pixel (color_at colors k) (depth_at depths k)

-- the pixels of as many colours and depths
unfoldable pub pixels_of : List Rgba → List ℕ → List Pixel
pixels_of [] depths = []
pixels_of (color ∷ colors) [] = []
pixels_of (color ∷ colors) (depth ∷ depths) = pixel color depth ∷ pixels_of colors depths
