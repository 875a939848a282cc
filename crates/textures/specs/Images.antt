-- Pictures with all their texels, parts that lie in them, and sets of textures by name.
use Rattle.std.specs.Prelude.{ℕ, ℤ, ◌≡◌, ◌<◌, ◌≤◌, ◌+◌, ◌*◌, Option, Some, None, length, List, replicate, slice_index, unwrap_or}
use Rattle.std.specs.Option.{option_map}
use Rattle.rc_base.specs.Lists.{at_name, with_name}
use Rattle.rc_base.specs.Pictures.{Picture, with_part}
use Rattle.rc_base.specs.Drawing.Texel.{texel_of}
use Rattle.rc_base.specs.declared.command.Part.{Part}
use Rattle.rc_base.specs.declared.command.Rgba.{Rgba}

-- four bytes for each texel
abbrev pub IsWhole : Picture → Type 0
IsWhole p = length p.texels ≡ 4 * (p.w * p.h)

abbrev pub IsWholeIfAny : Option Picture → Type 0
IsWholeIfAny None = Unit {0}
IsWholeIfAny (Some p) = IsWhole p

-- there is an image, and the part lies in it
abbrev pub LiesInside : Part → Option Picture → Type 0
LiesInside part None = ⊥
LiesInside part (Some p) = (part.x + part.w ≤ p.w) × (part.y + part.h ≤ p.h)

-- there is an image, and neither of its sides is 0
abbrev pub HasTexel : Option Picture → Type 0
HasTexel None = ⊥
HasTexel (Some p) = (0 < p.w) × (0 < p.h)

-- where there is an image, neither of its sides is 0
abbrev pub HasTexelIfAny : Option Picture → Type 0
HasTexelIfAny None = Unit {0}
HasTexelIfAny (Some p) = HasTexel (Some p)

-- the colour is that of the nearest texel at a texture coordinate (s, t), by the wraps in s and in t
abbrev pub IsNearestTexel : Option Picture → ℤ → ℤ → ℕ → ℕ → Rgba → Type 0
IsNearestTexel None s t wrap_s wrap_t color = ⊥
IsNearestTexel (Some p) s t wrap_s wrap_t color = color ≡ texel_of p s t wrap_s wrap_t

-- there is an image, and these are its bytes
abbrev pub AreTexels : Option Picture → List ℕ → Type 0
AreTexels texture bytes = (p : Picture) × (texture ≡ Some p) × (bytes ≡ p.texels)

-- a part that lies inside a whole picture, with bytes for its texels
pub record Fits (p : Picture) (part : Part) : Type 0 where
  pub whole : IsWhole p
  pub room : 4 * (part.w * part.h) ≤ length part.texels
  pub across : part.x + part.w ≤ p.w
  pub up : part.y + part.h ≤ p.h

-- a picture and a part from their numbers and bytes
abbrev pub picture : ℕ → ℕ → List ℕ → Picture
picture w h bytes = record { w = w; h = h; texels = bytes }

abbrev pub part : ℕ → ℕ → ℕ → ℕ → ℕ → List ℕ → Part
part name x y w h bytes = record { name = name; x = x; y = y; w = w; h = h; texels = bytes }

-- the picture of these sides, width and height
abbrev pub picture_with : List ℕ → List ℕ → Picture
picture_with sides bytes = picture (slice_index sides 0) (slice_index sides 1) bytes

-- the part's first rows
abbrev pub first_rows : Part → ℕ → Part
first_rows p n = record p { h = n }

-- all bytes 0
abbrev pub blank_picture : List ℕ → Picture
blank_picture sides = picture_with sides (replicate (4 * (slice_index sides 0 * slice_index sides 1)) 0)

-- a texture after a part of its image, if it has one, was written
abbrev pub with_image_part : Option Picture → Part → Option Picture
with_image_part texture part = option_map (λ (p : Picture). with_part p part) texture

-- ---- sets of textures, each with its image if it has one

-- the image of a texture, by its name from 1
abbrev pub texture_image : List (Option Picture) → ℕ → Option Picture
texture_image set name = unwrap_or (at_name set name) None

-- the set after the texture of a name was given an image
abbrev pub with_texture : List (Option Picture) → ℕ → Picture → List (Option Picture)
with_texture set name p = with_name set name (Some p)

-- the texture that the part names has an image, and the part lies in it
abbrev pub HasRoomFor : List (Option Picture) → Part → Type 0
HasRoomFor set part = LiesInside part (texture_image set part.name)

-- the set after a part was written into the texture that it names
abbrev pub with_texture_part : List (Option Picture) → Part → List (Option Picture)
with_texture_part set part = with_name set part.name (with_image_part (texture_image set part.name) part)

-- a texture of these sides, all bytes 0
abbrev pub blank_texture : List ℕ → Option Picture
blank_texture sides = Some (blank_picture sides)
