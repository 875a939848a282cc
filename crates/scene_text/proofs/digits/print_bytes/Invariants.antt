use Rattle.std.proofs.Common.{◌≡◌, ◌++◌, drop}
use Rattle.std.specs.List.{flat_map}
use Rattle.scene_text.specs.Text.Printed.{hex_byte}
use Rattle.scene_text.proofs.digits.print_bytes.Given as goal

-- what is printed so far, and then what is left, is the whole
abbrev pub invariant-loop-byte : goal.invariant-loop-byte
invariant-loop-byte l = l.text ++ flat_map hex_byte (drop l.byte-index l.bytes) ≡ l.fn.text ++ flat_map hex_byte l.bytes
