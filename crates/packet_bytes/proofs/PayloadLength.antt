-- The length of a payload.
use Rattle.std.proofs.Common.{◌≡◌, ◌+◌, List, [], ◌∷◌, ◌++◌, length, refl, ◌∙◌, arith, length-append}
use Rattle.rc_base.specs.declared.command.Command.{Command}
use Rattle.rc_base.specs.Formats.Commands.{Kind, Value, Fields, IsValue, AreValues, IsCommand, opcode_of, kinds_of, fields_of}
use Rattle.rc_base.specs.Formats.Commands.Kind.{Byte, Half, Word, Code, Bytes, Words, Image}
use Rattle.rc_base.specs.Formats.Spelling.{half, value_bytes, field_bytes, payload}
use Rattle.scene_lemmas.proofs.Formats.{words_length}
use Rattle.packet_bytes.specs.Laws.{fixed_bytes, fixed_length, texel_bytes, texel_length}

value_length : (k : Kind) (v : Value k) → IsValue k v → length (value_bytes k v) ≡ fixed_bytes k + texel_bytes k v
value_length Byte v fits = refl
value_length Half v fits = refl
value_length Word v fits = refl
value_length (Code count) v fits = refl
value_length (Bytes count) v fits = omega (arith, fits.0)
value_length (Words count) v fits = omega (arith, words_length v, fits.0)
value_length Image v fits = omega (arith, length-append (half v.w) (half v.h ++ v.texels), length-append (half v.h) v.texels, fits.2)

fields_length : (ks : List Kind) (x : Fields ks) → AreValues ks x → length (field_bytes ks x) ≡ fixed_length ks + texel_length ks x
fields_length [] x fits = refl
fields_length (k ∷ ks) x fits =
    length-append (value_bytes k x.0) (field_bytes ks x.1) ∙ omega (arith, value_length k x.0 fits.0, fields_length ks x.1 fits.1)

pub length_of_payload : (c : Command) → IsCommand c → length (payload c) ≡ fixed_length (kinds_of (opcode_of c)) + texel_length (kinds_of (opcode_of c)) (fields_of c)
length_of_payload c fits = fields_length (kinds_of (opcode_of c)) (fields_of c) fits
