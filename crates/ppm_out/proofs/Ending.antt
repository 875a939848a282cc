-- What ends an image: never nothing, and always something.
use Rattle.std.proofs.Common.{◌≡◌, ℕ, ◌*◌, ◌<◌, ◌≤◌, inl, inr, List, [], ◌∷◌, ◌++◌, length, refl, sym, ap, ◌∙◌, subst, arith}
use Rattle.std.specs.Prelude.{replicate}
use Rattle.std.specs.Fmt.{decimal}
use Rattle.std.proofs.lemmas.Bool.{cases_lt}
use Rattle.std.proofs.Math.Nat.{mul-le-mul}
use Rattle.std.proofs.lemmas.Fmt.{decimal_nonempty}
use Rattle.std.proofs.lemmas.List.{append-nil, length-replicate, get_or-replicate, get_or_past}
use Rattle.rc_base.specs.Formats.Commands.{AreBytes}
use Rattle.rc_base.specs.declared.image.Image.{Image}
use Rattle.ppm_out.specs.declared.header.Due.{Due}
use Rattle.ppm_out.specs.declared.header.Due.TheVariants as due
use Rattle.ppm_out.specs.Rest.{IsSide, Byte, Blank, Blanks, Side, Digits, Known, KnownSides, Pixels, Maximum, Height, Width, width_of, height_of, Ends, HasReadSides}

-- ---- an image doesn't end before its pixels

not_nil : (b : ℕ) (ys : List ℕ) → [] ≡ b ∷ ys → ⊥
not_nil b ys e = cc

module _ (K : List ℕ → Image → Type 0) (m : Image) where
  blanks_nil : Blanks K [] m → K [] m
  blanks_nil h = go h.0 h.1 h.2 h.4 where
    go : (gap ys : List ℕ) → [] ≡ gap ++ ys → K ys m → K [] m
    go [] ys e k = subst (λ (l : List ℕ). K l m) (sym e) k
    go (g ∷ gap) ys e k = absurd (not_nil g (gap ++ ys) e)

  digits_nil : (side : Image → ℕ) (w : ℕ) → Digits side w K [] m → K [] m
  digits_nil side w h = go h.0 h.1 h.2 h.5 where
    go : (gap ys : List ℕ) → [] ≡ gap ++ ys → K ys m → K [] m
    go [] ys e k = subst (λ (l : List ℕ). K l m) (sym e) k
    go (g ∷ gap) ys e k = absurd (not_nil g (gap ++ ys) e)

  side_nil : (side : Image → ℕ) → Side side K [] m → ⊥
  side_nil side h = go (decimal (side m)) refl h.1 where
    go : (ds : List ℕ) → decimal (side m) ≡ ds → [] ≡ decimal (side m) ++ h.0 → ⊥
    go [] e whole = let some : 0 < length (decimal (side m)) = decimal_nonempty (side m) (omega (arith, h.2)) in let none = ap length e in omega (arith, none, some)
    go (d ∷ ds) e whole = not_nil d (ds ++ h.0) (whole ∙ ap (λ (l : List ℕ). l ++ h.0) e)

pub unended : (d : Due) (m : Image) → Ends d [] m → ⊥
unended due.Letter m h = not_nil 80 h.0 h.1
unended due.Six m h = not_nil 54 h.0 h.1
unended due.Blank m h = not_nil h.0 h.1 h.2
unended due.Width m h = side_nil (Blank (Blanks Height)) m width_of (blanks_nil Width m h)
unended (due.WidthDigit width) m h = let k = digits_nil (Blank (Blanks Height)) m width_of width h in not_nil k.0 k.1 k.2
unended (due.Height width) m h = side_nil (Blank (Blanks Maximum)) m height_of (blanks_nil Height m h.1)
unended (due.HeightDigit width height) m h = let k = digits_nil (Blank (Blanks Maximum)) m height_of height h.1 in not_nil k.0 k.1 k.2
unended (due.Maximum width height) m h = let k = blanks_nil Maximum m h.1.1 in not_nil 50 k.0 k.1
unended (due.FirstFive width height) m h = not_nil 53 h.1.1.0 h.1.1.1
unended (due.SecondFive width height) m h = not_nil 53 h.1.1.0 h.1.1.1
unended (due.LastBlank width height) m h = not_nil h.1.1.0 h.1.1.1 h.1.1.2

pub pixels_unended : (width height : ℕ) (m : Image) → IsSide width → IsSide height → KnownSides width height Pixels [] m → ⊥
pixels_unended width height m w h k =
    let size : 0 ≡ 3 * (m.width * m.height) = ap length k.1.1.rgb ∙ k.1.1.pixels in
    let area : 1 * 1 ≤ width * height = mul-le-mul (w.0) (h.0) in
    let same : m.width * m.height ≡ width * height = ap (λ (n : ℕ). n * m.height) k.0 ∙ ap (λ (n : ℕ). width * n) k.1.0 in
    omega (arith, size, area, same)

-- ---- each rest has bytes that end an image

abbrev Word : (List ℕ → Image → Type 0) → Image → Type 0
Word K m = (xs : List ℕ) × K xs m

module _ (K : List ℕ → Image → Type 0) (m : Image) (w : Word K m) where
  byte_word : (b : ℕ) → Word (Byte b K) m
  byte_word b = (b ∷ w.0, (w.0, refl, w.1))

  blank_word : Word (Blank K) m
  blank_word = (32 ∷ w.0, (32, w.0, refl, refl, w.1))

  blanks_word : Word (Blanks K) m
  blanks_word = (w.0, ([], w.0, refl, refl, w.1))

  side_word : (side : Image → ℕ) → IsSide (side m) → Word (Side side K) m
  side_word side range = (decimal (side m) ++ w.0, (w.0, refl, range, w.1))

  digits_word : (side : Image → ℕ) → IsSide (side m) → Word (Digits side (side m) K) m
  digits_word side range = (w.0, ([], w.0, refl, sym (append-nil (decimal (side m))), range, w.1))

  known_word : (side : Image → ℕ) → Word (Known side (side m) K) m
  known_word side = (w.0, (refl, w.1))

-- black pixels
abbrev black : ℕ → ℕ → Image
black w h = record { width = w; height = h; rgb = replicate (3 * (w * h)) 0 }

pub zeros_are_bytes : (n : ℕ) → AreBytes (replicate n 0)
zeros_are_bytes n i = elim (cases_lt i n) [
  | inl below ↦ let is = get_or-replicate {A = ℕ} n i 0 0 below in omega (arith, is)
  | inr past ↦ let is = get_or_past {X = ℕ} (replicate n 0) i 0 (omega (arith, past, length-replicate {A = ℕ} n 0)) in omega (arith, is)
]

module _ (w h : ℕ) (width : IsSide w) (height : IsSide h) where
  pixels_word : Word Pixels (black w h)
  pixels_word = (replicate (3 * (w * h)) 0, record { rgb = refl; pixels = length-replicate (3 * (w * h)) 0; channels = zeros_are_bytes (3 * (w * h)) })

  last_word : Word (Blank Pixels) (black w h)
  last_word = blank_word Pixels (black w h) pixels_word

  second_word : Word (Byte 53 (Blank Pixels)) (black w h)
  second_word = byte_word (Blank Pixels) (black w h) last_word 53

  first_word : Word (Byte 53 (Byte 53 (Blank Pixels))) (black w h)
  first_word = byte_word (Byte 53 (Blank Pixels)) (black w h) second_word 53

  maximum_word : Word (Blanks Maximum) (black w h)
  maximum_word = blanks_word Maximum (black w h) (byte_word (Byte 53 (Byte 53 (Blank Pixels))) (black w h) first_word 50)

  height_word : Word (Blanks Height) (black w h)
  height_word = blanks_word Height (black w h) (side_word (Blank (Blanks Maximum)) (black w h) (blank_word (Blanks Maximum) (black w h) maximum_word) height_of height)

  width_word : Word (Blanks Width) (black w h)
  width_word = blanks_word Width (black w h) (side_word (Blank (Blanks Height)) (black w h) (blank_word (Blanks Height) (black w h) height_word) width_of width)

  both_known : (K : List ℕ → Image → Type 0) → Word K (black w h) → Word (KnownSides w h K) (black w h)
  both_known K word = known_word (Known height_of h K) (black w h) (known_word K (black w h) word height_of) width_of

-- bytes that end an image, and the image
pub record Ended (d : Due) : Type 0 where
  pub bytes : List ℕ
  pub image : Image
  pub ends : Ends d bytes image

ended : (d : Due) (m : Image) → Word (Ends d) m → Ended d
ended d m w = record { bytes = w.0; image = m; ends = w.1 }

pub can_end : (d : Due) → HasReadSides d → Ended d
can_end due.Letter sound =
    let one : IsSide 1 = (omega arith, omega arith) in
    ended due.Letter (black 1 1) (byte_word (Byte 54 (Blank (Blanks Width))) (black 1 1) (byte_word (Blank (Blanks Width)) (black 1 1) (blank_word (Blanks Width) (black 1 1) (width_word 1 1 one one)) 54) 80)
can_end due.Six sound =
    let one : IsSide 1 = (omega arith, omega arith) in
    ended due.Six (black 1 1) (byte_word (Blank (Blanks Width)) (black 1 1) (blank_word (Blanks Width) (black 1 1) (width_word 1 1 one one)) 54)
can_end due.Blank sound =
    let one : IsSide 1 = (omega arith, omega arith) in ended due.Blank (black 1 1) (blank_word (Blanks Width) (black 1 1) (width_word 1 1 one one))
can_end due.Width sound = let one : IsSide 1 = (omega arith, omega arith) in ended due.Width (black 1 1) (width_word 1 1 one one)
can_end (due.WidthDigit w) sound =
    let one : IsSide 1 = (omega arith, omega arith) in
    ended (due.WidthDigit w) (black w 1) (digits_word (Blank (Blanks Height)) (black w 1) (blank_word (Blanks Height) (black w 1) (height_word w 1 sound one)) width_of sound)
can_end (due.Height w) sound =
    let one : IsSide 1 = (omega arith, omega arith) in ended (due.Height w) (black w 1) (known_word (Blanks Height) (black w 1) (height_word w 1 sound one) width_of)
can_end (due.HeightDigit w h) sound =
    ended (due.HeightDigit w h) (black w h) (known_word (Digits height_of h (Blank (Blanks Maximum))) (black w h)
    (digits_word (Blank (Blanks Maximum)) (black w h) (blank_word (Blanks Maximum) (black w h) (maximum_word w h sound.0 sound.1)) height_of sound.1) width_of)
can_end (due.Maximum w h) sound = ended (due.Maximum w h) (black w h) (both_known w h sound.0 sound.1 (Blanks Maximum) (maximum_word w h sound.0 sound.1))
can_end (due.FirstFive w h) sound =
    ended (due.FirstFive w h) (black w h) (both_known w h sound.0 sound.1 (Byte 53 (Byte 53 (Blank Pixels))) (first_word w h sound.0 sound.1))
can_end (due.SecondFive w h) sound = ended (due.SecondFive w h) (black w h) (both_known w h sound.0 sound.1 (Byte 53 (Blank Pixels)) (second_word w h sound.0 sound.1))
can_end (due.LastBlank w h) sound = ended (due.LastBlank w h) (black w h) (both_known w h sound.0 sound.1 (Blank Pixels) (last_word w h sound.0 sound.1))
