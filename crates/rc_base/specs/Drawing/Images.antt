-- Images of frames.
use Rattle.std.specs.Prelude.{ℕ, ◌-◌, List, [], ◌∷◌, map, ℤ, pos}
use Rattle.std.specs.List.{flat_map, range_with_len}
use Rattle.rc_base.specs.Drawing.Serial.{frame_pixel}
use Rattle.rc_base.specs.declared.scene.Decl.{Decl}
use Rattle.rc_base.specs.declared.scene.Scene.{Scene}
use Rattle.rc_base.specs.declared.sync.Name.{Name}
use Rattle.rc_base.specs.declared.window.Pixel.{Pixel}
use Rattle.rc_base.specs.declared.image.Image.{Image}

-- what each pixel of the window holds, by x and y, from the lower left corner
abbrev pub Pixels : Type 0
Pixels = ℤ → ℤ → Pixel

abbrev pub rgb_of : Pixel → List ℕ
rgb_of p = p.color.r ∷ p.color.g ∷ p.color.b ∷ []

-- the bytes of a row, from the left
unfoldable pub row_bytes : Pixels → ℕ → ℕ → List ℕ
row_bytes pixels width y = flat_map (λ x. rgb_of (pixels (pos x) (pos y))) (range_with_len 0 width)

-- the bytes of a picture, its rows from the top
unfoldable pub rgb_bytes : Pixels → ℕ → ℕ → List ℕ
rgb_bytes pixels width height = flat_map (λ row. row_bytes pixels width (height - 1 - row)) (range_with_len 0 height)

abbrev pub image_from : Decl → Pixels → Image
image_from d pixels = record { width = d.width; height = d.height; rgb = rgb_bytes pixels d.width d.height }

-- frame k of an order
abbrev pub frame_image : Scene → List Name → ℕ → Image
frame_image scene order k = image_from scene.decl (frame_pixel scene order k)

-- frames 1 to n of an order
abbrev pub frame_images : Scene → List Name → ℕ → List Image
frame_images scene order n = map (frame_image scene order) (range_with_len 1 n)
