-- The bytes of a command's parts: of its numbers, each by its range, and then of the texels of its picture.
use Rattle.std.specs.Prelude.{ℕ, ℤ, pos, Bool, ◌*◌, List, [], ◌∷◌, ◌++◌, unsigned_abs, Result, Ok, if◌then◌else◌}
use Rattle.std.specs.Int.{w16}
use Rattle.rc_base.specs.Formats.Commands.{picture_area}
use Rattle.rc_base.specs.declared.command.NumberRange.{NumberRange}
use Rattle.rc_base.specs.declared.command.NumberRange.TheVariants as range
use Rattle.rc_base.specs.Formats.Spelling.{half, word}
use Rattle.byte_codec.specs.declared.fault.Form.{Form}
use Rattle.byte_codec.specs.Reading.{sized, both, convert, cons, read_byte, read_unsigned, read_word, take_bytes}

-- ---- writing

abbrev pub number_bytes : NumberRange → ℤ → List ℕ
number_bytes range.Byte z = unsigned_abs z ∷ []
number_bytes range.Half z = half (unsigned_abs z)
number_bytes range.Word z = word z

abbrev pub numbers_bytes : List NumberRange → List ℤ → List ℕ
numbers_bytes [] zs = []
numbers_bytes (r ∷ rs) [] = []
numbers_bytes (r ∷ rs) (z ∷ zs) = number_bytes r z ++ numbers_bytes rs zs

-- ---- reading

abbrev pub read_number : NumberRange → List ℕ → Result (ℤ × List ℕ) Form
read_number range.Byte = convert pos read_byte
read_number range.Half = convert pos (read_unsigned w16)
read_number range.Word = read_word

unfoldable pub read_numbers : List NumberRange → List ℕ → Result (List ℤ × List ℕ) Form
read_numbers [] bytes = Ok ([], bytes)
read_numbers (r ∷ rs) bytes = convert cons (both (read_number r) (read_numbers rs)) bytes

-- the bytes of the picture whose sides are the last two numbers
abbrev pub texel_count : Bool → List ℤ → ℕ
texel_count pictured numbers = if pictured then 4 * picture_area numbers else 0

abbrev pub read_parts : List NumberRange → Bool → List ℕ → Result ((List ℤ × List ℕ) × List ℕ) Form
read_parts ranges pictured = sized (read_numbers ranges) (λ numbers. take_bytes (texel_count pictured numbers))
