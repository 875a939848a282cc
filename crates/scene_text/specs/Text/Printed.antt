-- The text that is printed for a scene.
use Rattle.std.specs.Prelude.{ℕ, ◌+◌, ◌/◌, ◌%◌, nat_lt, List, [], ◌∷◌, ◌++◌, map, if◌then◌else◌}
use Rattle.std.specs.List.{flat_map}
use Rattle.std.specs.Fmt.{signed_decimal}
use Rattle.rc_base.specs.declared.scene.Scene.{Scene}
use Rattle.scene_text.specs.Text.Statements.{Statement, word_of, scene_statements}

-- 0 to 9 and a to f
abbrev pub hex_digit : ℕ → ℕ
hex_digit d = if nat_lt d 10 then 48 + d else 87 + d

-- a byte in two digits, the high one first
abbrev pub hex_byte : ℕ → List ℕ
hex_byte b = hex_digit (b / 16) ∷ hex_digit (b % 16) ∷ []

-- the word of all texels, or none where there is no texel
abbrev pub texel_words : List ℕ → List (List ℕ)
texel_words [] = []
texel_words (b ∷ bytes) = flat_map hex_byte (b ∷ bytes) ∷ []

-- the words after the name
abbrev pub argument_words : Statement → List (List ℕ)
argument_words s = map signed_decimal s.numbers ++ texel_words s.texels

-- a space and the word
abbrev pub after_space : List ℕ → List ℕ
after_space word = 32 ∷ word

-- the name, the other words with one space before each, and a line feed
unfoldable pub printed_line : Statement → List ℕ
printed_line s = word_of s.name ++ flat_map after_space (argument_words s) ++ 10 ∷ []

-- the lines of a scene
unfoldable pub printed : Scene → List ℕ
printed s = flat_map printed_line (scene_statements s)
