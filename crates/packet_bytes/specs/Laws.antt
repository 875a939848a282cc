-- Laws on the spelling of streams.
use Rattle.std.specs.Prelude.{◌≡◌, ℕ, ◌+◌, ◌*◌, List, [], ◌∷◌, length, map}
use Rattle.std.specs.List.{AllByRecursion}
use Rattle.rc_base.specs.declared.command.Command.{Command}
use Rattle.rc_base.specs.declared.list_command.ListCommand.TheVariants as list
use Rattle.rc_base.specs.Formats.Commands.{Kind, Value, Fields, IsCommand, opcode_of, kinds_of, fields_of}
use Rattle.rc_base.specs.Formats.Commands.Kind.{Byte, Half, Word, Code, Bytes, Words, Image}
use Rattle.rc_base.specs.Formats.Spelling.{CommandSet, plain_set, list_set, payload, encoded, SpellsStream, SpellsStreamOf}

-- What is encoded spells the commands, so it is read again.
abbrev pub EncodedIsRead : Type 0
EncodedIsRead = (commands : List Command) → AllByRecursion IsCommand commands → SpellsStream (encoded commands) commands

-- No bytes spell two lists of commands of a set.
abbrev pub SpellsOneListOf : {C O : Type 0} → CommandSet C O → Type 0
SpellsOneListOf {C = C} set = (bytes : List ℕ) (one other : List C) → SpellsStreamOf set bytes one → SpellsStreamOf set bytes other → one ≡ other

-- the same of the commands of the table
abbrev pub SpellsOneList : Type 0
SpellsOneList = SpellsOneListOf plain_set

-- What bytes spell in the commands of the table they spell in the larger set too.
abbrev pub PlainStreamsSpellThemselves : Type 0
PlainStreamsSpellThemselves = (bytes : List ℕ) (commands : List Command) → SpellsStream bytes commands → SpellsStreamOf list_set bytes (map (λ c. list.Plain c) commands)

-- the bytes of a field, without those of texels
abbrev pub fixed_bytes : Kind → ℕ
fixed_bytes Byte = 1
fixed_bytes Half = 2
fixed_bytes Word = 4
fixed_bytes (Code count) = 1
fixed_bytes (Bytes count) = count
fixed_bytes (Words count) = 4 * count
fixed_bytes Image = 4

abbrev pub fixed_length : List Kind → ℕ
fixed_length [] = 0
fixed_length (k ∷ ks) = fixed_bytes k + fixed_length ks

-- four bytes for each texel
abbrev pub texel_bytes : (k : Kind) → Value k → ℕ
texel_bytes Image p = 4 * (p.w * p.h)
texel_bytes Byte n = 0
texel_bytes Half n = 0
texel_bytes Word z = 0
texel_bytes (Code count) n = 0
texel_bytes (Bytes count) ns = 0
texel_bytes (Words count) zs = 0

abbrev pub texel_length : (ks : List Kind) → Fields ks → ℕ
texel_length [] x = 0
texel_length (k ∷ ks) x = texel_bytes k x.0 + texel_length ks x.1

-- A payload is as long as its row says, and longer by the texels of its picture.
abbrev pub PayloadLength : Type 0
PayloadLength = (c : Command) → IsCommand c → length (payload c) ≡ fixed_length (kinds_of (opcode_of c)) + texel_length (kinds_of (opcode_of c)) (fields_of c)
