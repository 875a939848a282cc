-- Colours: four channels of 8 bits.
use Rattle.std.specs.Prelude.{ℕ, ◌+◌, ◌*◌, ◌/◌, List, slice_index}
use Rattle.rc_base.specs.declared.command.Rgba.{Rgba}

abbrev pub rgba : ℕ → ℕ → ℕ → ℕ → Rgba
rgba r g b a = record { r = r; g = g; b = b; a = a }

-- the colour of r, g, b, a as bytes
abbrev pub color_of : List ℕ → Rgba
color_of bytes = rgba (slice_index bytes 0) (slice_index bytes 1) (slice_index bytes 2) (slice_index bytes 3)

-- the product of two channels, as parts of 255, rounded
abbrev pub prod : ℕ → ℕ → ℕ
prod a b = (a * b + 127) / 255

-- the products of two colours' channels
abbrev pub modulated : Rgba → Rgba → Rgba
modulated c t = rgba (prod c.r t.r) (prod c.g t.g) (prod c.b t.b) (prod c.a t.a)
