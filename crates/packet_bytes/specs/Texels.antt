-- What the type of a command says of its fields, and what it does not: the number of texels of a picture.
use Rattle.std.specs.List.{AllByRecursion}
use Rattle.std.specs.Int.{w32}
use Rattle.std.specs.Prelude.{◌≡◌, ◌*◌, ◌^◌, ◌<◌, FitsSigned, List, [], ◌∷◌, length}
use Rattle.rc_base.specs.declared.command.Command.{Command}
use Rattle.rc_base.specs.Formats.Commands.{Kind, Value, Fields, AreBytes, opcode_of, kinds_of, fields_of}
use Rattle.rc_base.specs.Formats.Commands.Kind.{Byte, Half, Word, Code, Bytes, Words, Image}

-- four bytes for each texel of a picture
abbrev pub HasPictureTexels : (k : Kind) → Value k → Type 0
HasPictureTexels Image p = length p.texels ≡ 4 * (p.w * p.h)
HasPictureTexels Byte n = Unit {0}
HasPictureTexels Half n = Unit {0}
HasPictureTexels Word z = Unit {0}
HasPictureTexels (Code count) n = Unit {0}
HasPictureTexels (Bytes count) ns = Unit {0}
HasPictureTexels (Words count) zs = Unit {0}

abbrev pub HaveTexels : (ks : List Kind) → Fields ks → Type 0
HaveTexels [] x = Unit {0}
HaveTexels (k ∷ ks) x = HasPictureTexels k x.0 × HaveTexels ks x.1

abbrev pub IsWhole : Command → Type 0
IsWhole c = HaveTexels (kinds_of (opcode_of c)) (fields_of c)

-- a value of a field is one of its type
abbrev pub IsTyped : (k : Kind) → Value k → Type 0
IsTyped Byte n = n < 256
IsTyped Half n = n < 2 ^ 16
IsTyped Word z = FitsSigned w32 z
IsTyped (Code count) n = n < 256
IsTyped (Bytes count) ns = (length ns ≡ count) × AreBytes ns
IsTyped (Words count) zs = (length zs ≡ count) × AllByRecursion (FitsSigned w32) zs
IsTyped Image p = (p.w < 2 ^ 16) × (p.h < 2 ^ 16) × AreBytes p.texels

abbrev pub AreTyped : (ks : List Kind) → Fields ks → Type 0
AreTyped [] x = Unit {0}
AreTyped (k ∷ ks) x = IsTyped k x.0 × AreTyped ks x.1

abbrev pub HasType : Command → Type 0
HasType c = AreTyped (kinds_of (opcode_of c)) (fields_of c)
