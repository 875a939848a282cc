-- What the lines of a text say, read from their words.
use Rattle.std.specs.Prelude.{◌≡◌, ℕ, ◌+◌, ◌-◌, ◌*◌, ◌==◌, ◌&&◌, ◌||◌, not, nat_lt, nat_le, nat_eq, Bool, true, List, [], ◌∷◌, length, map, take, drop, slice_index, ℤ, pos, neg_ℤ, Option, Some, None, Result, Ok, Err, if◌then◌else◌}
use Rattle.std.specs.List.{find, filter, slice_split, list_all}
use Rattle.std.specs.Option.{option_map, option_and_then}
use Rattle.std.specs.Cmp.Lexicographic.{pointwise}
use Rattle.std.specs.Str.{all_ascii_digits}
use Rattle.std.specs.Str.Lines.{lines}
use Rattle.std.specs.Str.Parse.{digits_value}
use Rattle.rc_base.specs.declared.scene.Scene.{Scene}
use Rattle.rc_base.specs.declared.scene.TextKind.{TextKind}
use Rattle.rc_base.specs.declared.scene.TextKind.TheVariants as kind
use Rattle.rc_base.specs.declared.text.LineName.{LineName}
use Rattle.rc_base.specs.declared.text.LineName.TheVariants as line
use Rattle.rc_base.specs.declared.command.NumberRange.{NumberRange}
use Rattle.rc_base.specs.declared.command.NumberRange.TheVariants as range
use Rattle.rc_base.specs.Numbers.{entry, is_between}
use Rattle.rc_base.specs.Formats.Commands.{is_in_range, picture_area}
use Rattle.scene_text.specs.Text.Statements.{Statement, statement, word_of, line_names, line_ranges, line_has_picture, scene_statements}

-- ---- lines and words

-- a printing character of ASCII or a space
abbrev pub is_text_byte : ℕ → Bool
is_text_byte b = nat_le 32 b && nat_le b 126

abbrev pub is_text : List ℕ → Bool
is_text line = list_all is_text_byte line

abbrev pub is_space : ℕ → Bool
is_space b = b == 32

abbrev pub is_word : List ℕ → Bool
is_word w = nat_lt 0 (length w)

-- the words of a line: what stands between its spaces
abbrev pub words_of : List ℕ → List (List ℕ)
words_of line = filter is_word (slice_split is_space line)

-- a line that begins with `#`
abbrev pub is_comment : List ℕ → Bool
is_comment line = slice_index line 0 == 35

abbrev pub has_no_word : List (List ℕ) → Bool
has_no_word words = length words == 0

-- a line that says nothing
abbrev pub is_skipped : List ℕ → Bool
is_skipped line = is_comment line || has_no_word (words_of line)

-- ---- numbers

-- the number of 1 to 10 decimal digits
abbrev pub magnitude_of : List ℕ → Option ℕ
magnitude_of digits =
    if nat_le 1 (length digits) && nat_le (length digits) 10 && all_ascii_digits digits then Some (digits_value 10 digits) else None

abbrev pub is_negative : List ℕ → Bool
is_negative word = slice_index word 0 == 45

abbrev pub negative : ℕ → ℤ
negative n = neg_ℤ (pos n)

-- the number of a word: digits, behind a minus or not
abbrev pub spelled_number : List ℕ → Option ℤ
spelled_number word = if is_negative word then option_map negative (magnitude_of (drop 1 word)) else option_map pos (magnitude_of word)

abbrev pub if_in : NumberRange → ℤ → Option ℤ
if_in r z = if is_in_range r z then Some z else None

-- the number of a word, where it lies in the range
abbrev pub reads_as : NumberRange → List ℕ → Option ℤ
reads_as r word = option_and_then (if_in r) (spelled_number word)

-- a list with one more in front
abbrev pub with_first : {A : Type 0} → Option A → Option (List A) → Option (List A)
with_first None xs = None
with_first (Some x) None = None
with_first (Some x) (Some xs) = Some (x ∷ xs)

-- the number of each word, in its range
abbrev pub numbers_of : List NumberRange → List (List ℕ) → Option (List ℤ)
numbers_of [] [] = Some []
numbers_of [] (w ∷ ws) = None
numbers_of (r ∷ rs) [] = None
numbers_of (r ∷ rs) (w ∷ ws) = with_first (reads_as r w) (numbers_of rs ws)

-- ---- texels

-- the value of a hexadecimal digit of either case
abbrev pub hex_value : ℕ → Option ℕ
hex_value c =
    if nat_le 48 c && nat_le c 57 then Some (c - 48)
    else if nat_le 97 c && nat_le c 102 then Some (c - 87)
    else if nat_le 65 c && nat_le c 70 then Some (c - 55)
    else None

-- a byte of its high and its low digit
abbrev pub hex_pair : Option ℕ → Option ℕ → Option ℕ
hex_pair None low = None
hex_pair (Some high) None = None
hex_pair (Some high) (Some low) = Some (high * 16 + low)

-- the bytes of a word of hexadecimal digits, two for each
abbrev pub hex_bytes : List ℕ → Option (List ℕ)
hex_bytes [] = Some []
hex_bytes (c ∷ []) = None
hex_bytes (c ∷ (d ∷ cs)) = with_first (hex_pair (hex_value c) (hex_value d)) (hex_bytes cs)

-- the bytes of the texels of so large a picture
abbrev pub spelled_texels : ℕ → List ℕ → Option (List ℕ)
spelled_texels area word = if length word == 8 * area then hex_bytes word else None

-- ---- a line

abbrev pub has_name : List ℕ → LineName → Bool
has_name word name = pointwise nat_eq (word_of name) word

-- the name that is spelled so
unfoldable pub name_of : List ℕ → Option LineName
name_of word = find (has_name word) line_names

-- so many words follow the numbers: one where width and height are readable and their product isn't 0, and none where it is 0. Where they aren't readable
-- both are right.
abbrev pub is_rest_count : Option (List ℤ) → ℕ → Bool
is_rest_count (Some sides) rest = if picture_area sides == 0 then rest == 0 else rest == 1
is_rest_count None rest = nat_le rest 1

-- as many words follow the name as it wants
abbrev pub is_counted : LineName → List (List ℕ) → Bool
is_counted name words =
    let count = length (line_ranges name) in
    nat_le count (length words)
    && (if line_has_picture name then is_rest_count (numbers_of (range.Half ∷ range.Half ∷ []) (take 2 (drop (count - 2) words))) (length words - count)
    else length words == count)

abbrev pub or_fault : {A : Type 0} → TextKind → Option A → Result A TextKind
or_fault k None = Err k
or_fault k (Some x) = Ok x

-- with the texels that the words after the numbers spell
abbrev pub with_texels : LineName → List (List ℕ) → List ℤ → Result Statement TextKind
with_texels name [] numbers = Ok (statement name numbers [])
with_texels name (w ∷ ws) numbers = or_fault kind.BadHex (option_map (statement name numbers) (spelled_texels (picture_area numbers) w))

-- the first number of a scene's line is the version of the format, which is 1 or 2
abbrev pub has_version : LineName → List ℤ → Bool
has_version line.Scene numbers = is_between (pos 1) (pos 2) (entry numbers 0)
has_version line.Shared numbers = true
has_version line.Barrier numbers = true
has_version line.Semaphore numbers = true
has_version line.Client numbers = true
has_version (line.Command o) numbers = true

abbrev pub with_numbers : LineName → List (List ℕ) → Option (List ℤ) → Result Statement TextKind
with_numbers name rest None = Err kind.BadNumber
with_numbers name rest (Some numbers) = if has_version name numbers then with_texels name rest numbers else Err kind.BadNumber

-- what a name and the words after it say
unfoldable pub arguments_say : LineName → List (List ℕ) → Result Statement TextKind
arguments_say name words =
    let count = length (line_ranges name) in
    if is_counted name words then with_numbers name (drop count words) (numbers_of (line_ranges name) (take count words)) else Err kind.WrongCount

abbrev pub words_say_under : Option LineName → List (List ℕ) → Result Statement TextKind
words_say_under None words = Err kind.UnknownWord
words_say_under (Some name) words = arguments_say name words

-- what the words of a line say
abbrev pub words_say : List (List ℕ) → Result Statement TextKind
words_say [] = Err kind.UnknownWord
words_say (w ∷ ws) = words_say_under (name_of w) ws

-- ---- a text

-- the words of each line that says something
abbrev pub spoken : List (List ℕ) → List (List (List ℕ))
spoken ls = map words_of (filter (λ l. not (is_skipped l)) ls)

-- All lines are text, and what they say is the scene.
pub record SpellsText (text : List ℕ) (s : Scene) : Type 0 where
  pub text_bytes : list_all is_text (lines text) ≡ true
  pub says : map words_say (spoken (lines text)) ≡ map (λ x. Ok x) (scene_statements s)
