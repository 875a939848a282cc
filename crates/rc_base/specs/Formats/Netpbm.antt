-- Images as Netpbm P6: what is written, and what is read back. No comment stands in a header.
use Rattle.std.specs.Prelude.{◌≡◌, ℕ, ◌*◌, ◌<◌, ◌≤◌, ◌==◌, ◌&&◌, ◌||◌, nat_le, Bool, true, List, ◌∷◌, ◌++◌, length, take, codes}
use Rattle.std.specs.List.{flat_map, list_all}
use Rattle.std.specs.Fmt.{decimal}
use Rattle.rc_base.specs.Formats.Commands.{AreBytes}
use Rattle.rc_base.specs.declared.image.Image.{Image}

-- ---- writing

-- the letters, width and height, the greatest value of a channel, and r, g, b of each pixel
abbrev pub p6_text : Image → List ℕ
p6_text m = codes "P6\n" ++ decimal m.width ++ codes " " ++ decimal m.height ++ codes "\n255\n" ++ m.rgb

-- the texts of several images, one after the other
abbrev pub p6_texts : List Image → List ℕ
p6_texts images = flat_map p6_text images

-- ---- reading

-- space, tab, LF, VT, FF, CR
abbrev pub is_whitespace : ℕ → Bool
is_whitespace b = b == 32 || (nat_le 9 b && nat_le b 13)

-- one byte or more of whitespace
pub record IsGap (bytes : List ℕ) : Type 0 where
  pub some : 0 < length bytes
  pub each : list_all is_whitespace bytes ≡ true

-- the fields of a header with gaps between them, one byte of whitespace, and the pixels
pub record SpellsImage (bytes : List ℕ) (m : Image) : Type 0 where
  pub first : List ℕ
  pub second : List ℕ
  pub third : List ℕ
  pub last : ℕ
  pub gaps : IsGap first × IsGap second × IsGap third × (is_whitespace last ≡ true)
  pub width : (1 ≤ m.width) × (m.width ≤ 2048)
  pub height : (1 ≤ m.height) × (m.height ≤ 2048)
  pub pixels : length m.rgb ≡ 3 * (m.width * m.height)
  pub channels : AreBytes m.rgb
  pub parts : bytes ≡ codes "P6" ++ (first ++ (decimal m.width ++ (second ++ (decimal m.height ++ (third ++ (codes "255" ++ last ∷ m.rgb))))))

-- more bytes could make these an image
pub record BeginsImage (front : List ℕ) : Type 0 where
  pub more : List ℕ
  pub image : Image
  pub spelled : SpellsImage (front ++ more) image

-- no front of the bytes is an image, and the longest one that begins an image has this length
pub record IsNoImage (bytes : List ℕ) (at : ℕ) : Type 0 where
  pub none : (n : ℕ) (m : Image) → SpellsImage (take n bytes) m → ⊥
  pub most : at ≤ length bytes
  pub begins : BeginsImage (take at bytes)
  pub longest : (n : ℕ) → at < n → n ≤ length bytes → BeginsImage (take n bytes) → ⊥
