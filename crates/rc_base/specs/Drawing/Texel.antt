-- Which picture a draw samples, and the texel at a texture coordinate.
use Rattle.std.specs.Prelude.{ℕ, ◌-◌, ◌==◌, ◌&&◌, Bool, List, Option, Some, None, if◌then◌else◌, ℤ, pos, ◌*ℤ◌, slice_index}
use Rattle.std.specs.Int.{int_min, int_max, int_rem_euclid}
use Rattle.rc_base.specs.Numbers.{fixed_one, floor_quotient, natural}
use Rattle.rc_base.specs.Colors.{color_of}
use Rattle.rc_base.specs.Pictures.{Picture, texel_at}
use Rattle.rc_base.specs.Contexts.Context.{shared_sides}
use Rattle.rc_base.specs.declared.command.Rgba.{Rgba}
use Rattle.rc_base.specs.declared.state.State.{State}

-- ---- which picture

-- the texels of each shared texture, by its name from 1
abbrev pub SharedTexels : Type 0
SharedTexels = ℕ → List ℕ

-- a shared texture with its declared sides
abbrev pub shared_picture : List (List ℕ) → SharedTexels → ℕ → Picture
shared_picture sizes texels name = record { w = slice_index (shared_sides sizes name) 0; h = slice_index (shared_sides sizes name) 1; texels = texels name }

abbrev pub bound_kind : State → ℕ
bound_kind s = slice_index s.binding 0

abbrev pub bound_name : State → ℕ
bound_name s = slice_index s.binding 1

-- a draw samples the shared texture of this name
abbrev pub samples_shared : State → ℕ → Bool
samples_shared s name = s.texture_on && (bound_kind s == 1 && bound_name s == name)

-- The picture that a draw samples, of private images and of shared textures by their names: texturing is on, and the texture that is bound has an
-- image. Shared textures always have one.
abbrev pub sampled : State → (ℕ → Option Picture) → (ℕ → Picture) → Option Picture
sampled s privates shareds =
    if s.texture_on then (if bound_kind s == 1 then Some (shareds (bound_name s)) else privates (bound_name s)) else None

-- ---- which texel

-- an index along a side that wraps: REPEAT (0), or CLAMP
abbrev pub wrapped : ℕ → ℕ → ℤ → ℕ
wrapped wrap side i =
    if wrap == 0 then natural (int_rem_euclid i (pos side)) else natural (int_max (pos 0) (int_min i (pos (side - 1))))

-- the nearest texel's column or row, from a 16.16 coordinate
abbrev pub texel_index : ℕ → ℕ → ℤ → ℕ
texel_index wrap side coordinate = wrapped wrap side (floor_quotient (coordinate *ℤ pos side) (pos fixed_one))

-- the texel of a picture at a texture coordinate (s, t), by the wraps in s and in t
unfoldable pub texel_of : Picture → ℤ → ℤ → ℕ → ℕ → Rgba
texel_of p s t wrap_s wrap_t = color_of (texel_at p (texel_index wrap_s p.w s) (texel_index wrap_t p.h t))

abbrev pub wrap_in_s : State → ℕ
wrap_in_s s = slice_index s.tex_mode 1

abbrev pub wrap_in_t : State → ℕ
wrap_in_t s = slice_index s.tex_mode 2
