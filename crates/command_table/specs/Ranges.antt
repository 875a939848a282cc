-- Numbers in their ranges, and the parts of a command.
use Rattle.std.specs.Prelude.{◌≡◌, ◌≤◌, true, List, [], ◌∷◌, replicate, take, ℕ, ℤ, pos}
use Rattle.rc_base.specs.declared.command.Command.{Command}
use Rattle.rc_base.specs.declared.command.NumberRange.{NumberRange}
use Rattle.rc_base.specs.declared.command.Part.{Part}
use Rattle.rc_base.specs.declared.command.Rgba.{Rgba}
use Rattle.rc_base.specs.Formats.Commands.{opcode_of, ranges_of, is_in_range, parts_of}

-- each number is in the range at its place
abbrev pub AreIn : List NumberRange → List ℤ → Type 0
AreIn [] [] = Unit {0}
AreIn [] (z ∷ zs) = ⊥
AreIn (r ∷ rs) [] = ⊥
AreIn (r ∷ rs) (z ∷ zs) = (is_in_range r z ≡ true) × AreIn rs zs

-- the ranges of a colour's numbers, of an image's and of a part's
abbrev pub color_ranges : List NumberRange
color_ranges = replicate 4 NumberRange.Byte

abbrev pub image_ranges : List NumberRange
image_ranges = NumberRange.Byte ∷ NumberRange.Half ∷ NumberRange.Half ∷ []

abbrev pub part_ranges : List NumberRange
part_ranges = NumberRange.Byte ∷ replicate 4 NumberRange.Half

-- the numbers of a colour, and of a part
abbrev pub color_numbers : Rgba → List ℤ
color_numbers c = pos c.r ∷ pos c.g ∷ pos c.b ∷ pos c.a ∷ []

abbrev pub part_numbers : Part → List ℤ
part_numbers p = pos p.name ∷ pos p.x ∷ pos p.y ∷ pos p.w ∷ pos p.h ∷ []

-- the numbers and the texels are those of a command, and each number is in its range
pub record AreNumbersOf (c : Command) (numbers : List ℤ) (texels : List ℕ) : Type 0 where
  pub numbers_are : numbers ≡ (parts_of c).numbers
  pub texels_are : texels ≡ (parts_of c).texels
  pub in_range : AreIn (ranges_of (opcode_of c)) numbers

-- so many numbers at the front, and the texels, are those of a command
pub record FrontHasPartsOf (c : Command) (room : List ℤ) (count : ℕ) (texels : List ℕ) : Type 0 where
  pub most : count ≤ 16
  pub numbers_are : take count room ≡ (parts_of c).numbers
  pub texels_are : texels ≡ (parts_of c).texels
  pub in_range : AreIn (ranges_of (opcode_of c)) (take count room)
