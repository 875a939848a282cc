-- What the type of a command says, with its texels, is what the spelling asks.
use Rattle.std.proofs.Common.{List, [], ◌∷◌}
use Rattle.std.specs.List.{AllByRecursion}
use Rattle.rc_base.specs.declared.command.Command.{Command}
use Rattle.rc_base.specs.Formats.Commands.{Kind, Value, Fields, IsValue, AreValues, IsCommand, opcode_of, kinds_of, fields_of}
use Rattle.rc_base.specs.Formats.Commands.Kind.{Byte, Half, Word, Code, Bytes, Words, Image}
use Rattle.packet_bytes.specs.Texels.{HasPictureTexels, HaveTexels, IsWhole, IsTyped, AreTyped, HasType}

is_value : (k : Kind) (v : Value k) → IsTyped k v → HasPictureTexels k v → IsValue k v
is_value Byte v t h = t
is_value Half v t h = t
is_value Word v t h = t
is_value (Code count) v t h = t
is_value (Bytes count) v t h = t
is_value (Words count) v t h = t
is_value Image v t h = (t.0, t.1, h, t.2)

are_values : (ks : List Kind) (x : Fields ks) → AreTyped ks x → HaveTexels ks x → AreValues ks x
are_values [] x t h = tt
are_values (k ∷ ks) x t h = (is_value k x.0 t.0 h.0, are_values ks x.1 t.1 h.1)

pub are_commands : (cs : List Command) → AllByRecursion HasType cs → AllByRecursion IsWhole cs → AllByRecursion IsCommand cs
are_commands [] t h = tt
are_commands (c ∷ cs) t h = (are_values (kinds_of (opcode_of c)) (fields_of c) t.0 h.0, are_commands cs t.1 h.1)
