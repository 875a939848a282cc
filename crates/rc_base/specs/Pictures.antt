-- Pictures: the texels of a rectangle, and writing a part of one.
use Rattle.std.specs.Prelude.{ℕ, ◌+◌, ◌-◌, ◌*◌, ◌/◌, ◌%◌, ◌&&◌, Bool, nat_le, nat_lt, List, take, drop, if◌then◌else◌}
use Rattle.std.specs.List.{flat_map, range_with_len}
use Rattle.rc_base.specs.declared.command.Part.{Part}

-- r, g, b, a of each texel, row by row; row 0 is at t = 0
pub record Picture : Type 0 where
  pub w : ℕ
  pub h : ℕ
  pub texels : List ℕ

-- the four bytes of the texel at a column and a row
abbrev pub texel_at : Picture → ℕ → ℕ → List ℕ
texel_at p column row = take 4 (drop (4 * (row * p.w + column)) p.texels)

abbrev pub picture_of : Part → Picture
picture_of part = record { w = part.w; h = part.h; texels = part.texels }

-- the texel lies in the part
abbrev pub is_in_part : Part → ℕ → ℕ → Bool
is_in_part part column row =
    (nat_le part.x column && nat_lt column (part.x + part.w)) && (nat_le part.y row && nat_lt row (part.y + part.h))

-- the texel after the part was written: that of the part where it lies there, else the old one
abbrev pub written_texel : Picture → Part → ℕ → ℕ → List ℕ
written_texel p part column row =
    if is_in_part part column row then texel_at (picture_of part) (column - part.x) (row - part.y) else texel_at p column row

-- the picture after the part was written: each texel, row by row
unfoldable pub with_part : Picture → Part → Picture
with_part p part = record p { texels = flat_map (λ k. written_texel p part (k % p.w) (k / p.w)) (range_with_len 0 (p.w * p.h)) }
