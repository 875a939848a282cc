-- Images that can be written, and what stands in front of their pixels.
use Rattle.std.specs.Prelude.{◌≡◌, ℕ, ◌*◌, ◌≤◌, List, ◌++◌, length, codes}
use Rattle.std.specs.Fmt.{decimal}
use Rattle.rc_base.specs.declared.image.Image.{Image}

-- sides from 1 to 2048, and three bytes for each pixel
pub record IsWholeImage (m : Image) : Type 0 where
  pub width : (1 ≤ m.width) × (m.width ≤ 2048)
  pub height : (1 ≤ m.height) × (m.height ≤ 2048)
  pub pixels : length m.rgb ≡ 3 * (m.width * m.height)

-- the header of an image with these sides: the letters, width and height, and the greatest value of a channel
abbrev pub p6_header : ℕ → ℕ → List ℕ
p6_header width height = codes "P6\n" ++ decimal width ++ codes " " ++ decimal height ++ codes "\n255\n"
