-- What may follow a front of an image: the rest of its bytes, by what is due next.
use Rattle.std.specs.Prelude.{◌≡◌, ℕ, ◌+◌, ◌*◌, ◌-◌, ◌<◌, ◌≤◌, ◌⊎◌, ◌↔◌, true, List, ◌∷◌, ◌++◌, length, Option, Some, None}
use Rattle.std.specs.List.{list_all}
use Rattle.std.specs.Fmt.{decimal}
use Rattle.rc_base.specs.Formats.Commands.{AreBytes}
use Rattle.rc_base.specs.Formats.Netpbm.{is_whitespace}
use Rattle.rc_base.specs.declared.image.Image.{Image}
use Rattle.ppm_out.specs.declared.header.Due.{Due}
use Rattle.ppm_out.specs.declared.header.Due.TheVariants as due
use Rattle.ppm_out.specs.declared.header.Next.{Next}
use Rattle.ppm_out.specs.declared.header.Next.TheVariants as next

-- ---- sides and their digits

abbrev pub IsSide : ℕ → Type 0
IsSide side = (1 ≤ side) × (side ≤ 2048)

abbrev pub IsDigit : ℕ → Type 0
IsDigit b = (48 ≤ b) × (b ≤ 57)

-- the side that a digit begins, unless it is 0
abbrev pub IsFirstDigit : ℕ → Option ℕ → Type 0
IsFirstDigit b (Some side) = (49 ≤ b) × (b ≤ 57) × (side ≡ b - 48)
IsFirstDigit b None = (b < 49) ⊎ (57 < b)

-- the side with a digit more, unless it is too long
abbrev pub IsNextDigit : ℕ → ℕ → Option ℕ → Type 0
IsNextDigit side b (Some longer) = IsDigit b × (longer ≡ side * 10 + (b - 48)) × (longer ≤ 2048)
IsNextDigit side b None = IsDigit b → 2048 < side * 10 + (b - 48)

-- ---- bytes, and an image that they are the rest of

-- this byte comes first
abbrev pub Byte : ℕ → (List ℕ → Image → Type 0) → List ℕ → Image → Type 0
Byte b rest xs m = (ys : List ℕ) × (xs ≡ b ∷ ys) × rest ys m

-- one byte of whitespace comes first
abbrev pub Blank : (List ℕ → Image → Type 0) → List ℕ → Image → Type 0
Blank rest xs m = (b : ℕ) × (ys : List ℕ) × (xs ≡ b ∷ ys) × (is_whitespace b ≡ true) × rest ys m

-- whitespace may come first
abbrev pub Blanks : (List ℕ → Image → Type 0) → List ℕ → Image → Type 0
Blanks rest xs m = (gap : List ℕ) × (ys : List ℕ) × (xs ≡ gap ++ ys) × (list_all is_whitespace gap ≡ true) × rest ys m

-- a side comes first
abbrev pub Side : (Image → ℕ) → (List ℕ → Image → Type 0) → List ℕ → Image → Type 0
Side side rest xs m = (ys : List ℕ) × (xs ≡ decimal (side m) ++ ys) × IsSide (side m) × rest ys m

-- the digits of a side come first that stand behind those of another one
abbrev pub Digits : (Image → ℕ) → ℕ → (List ℕ → Image → Type 0) → List ℕ → Image → Type 0
Digits side front rest xs m =
    (more : List ℕ) × (ys : List ℕ) × (xs ≡ more ++ ys) × (decimal (side m) ≡ decimal front ++ more) × IsSide (side m) × rest ys m

-- a side is known
abbrev pub Known : (Image → ℕ) → ℕ → (List ℕ → Image → Type 0) → List ℕ → Image → Type 0
Known side n rest xs m = (side m ≡ n) × rest xs m

abbrev pub width_of : Image → ℕ
width_of m = m.width

abbrev pub height_of : Image → ℕ
height_of m = m.height

-- the pixels, and nothing else
pub record Pixels (xs : List ℕ) (m : Image) : Type 0 where
  pub rgb : xs ≡ m.rgb
  pub pixels : length m.rgb ≡ 3 * (m.width * m.height)
  pub channels : AreBytes m.rgb

-- the greatest value of a channel
abbrev pub Maximum : List ℕ → Image → Type 0
Maximum = Byte 50 (Byte 53 (Byte 53 (Blank Pixels)))

abbrev pub Height : List ℕ → Image → Type 0
Height = Side height_of (Blank (Blanks Maximum))

abbrev pub Width : List ℕ → Image → Type 0
Width = Side width_of (Blank (Blanks Height))

-- both sides are known
abbrev pub KnownSides : ℕ → ℕ → (List ℕ → Image → Type 0) → List ℕ → Image → Type 0
KnownSides width height rest = Known width_of width (Known height_of height rest)

-- the bytes end an image of which a front was read
abbrev pub Ends : Due → List ℕ → Image → Type 0
Ends due.Letter = Byte 80 (Byte 54 (Blank (Blanks Width)))
Ends due.Six = Byte 54 (Blank (Blanks Width))
Ends due.Blank = Blank (Blanks Width)
Ends due.Width = Blanks Width
Ends (due.WidthDigit width) = Digits width_of width (Blank (Blanks Height))
Ends (due.Height width) = Known width_of width (Blanks Height)
Ends (due.HeightDigit width height) = Known width_of width (Digits height_of height (Blank (Blanks Maximum)))
Ends (due.Maximum width height) = KnownSides width height (Blanks Maximum)
Ends (due.FirstFive width height) = KnownSides width height (Byte 53 (Byte 53 (Blank Pixels)))
Ends (due.SecondFive width height) = KnownSides width height (Byte 53 (Blank Pixels))
Ends (due.LastBlank width height) = KnownSides width height (Blank Pixels)

-- the sides that were read are sides
abbrev pub HasReadSides : Due → Type 0
HasReadSides due.Letter = Unit {0}
HasReadSides due.Six = Unit {0}
HasReadSides due.Blank = Unit {0}
HasReadSides due.Width = Unit {0}
HasReadSides (due.WidthDigit width) = IsSide width
HasReadSides (due.Height width) = IsSide width
HasReadSides (due.HeightDigit width height) = IsSide width × IsSide height
HasReadSides (due.Maximum width height) = IsSide width × IsSide height
HasReadSides (due.FirstFive width height) = IsSide width × IsSide height
HasReadSides (due.SecondFive width height) = IsSide width × IsSide height
HasReadSides (due.LastBlank width height) = IsSide width × IsSide height

-- a byte leads from what is due to what is due next
abbrev pub Follows : Due → ℕ → Next → Type 0
Follows d b next.Nothing = (xs : List ℕ) (m : Image) → Ends d (b ∷ xs) m → ⊥
Follows d b (next.Header after) = HasReadSides after × ((xs : List ℕ) (m : Image) → Ends d (b ∷ xs) m ↔ Ends after xs m)
Follows d b (next.Pixels width height) =
    IsSide width × IsSide height × ((xs : List ℕ) (m : Image) → Ends d (b ∷ xs) m ↔ KnownSides width height Pixels xs m)
