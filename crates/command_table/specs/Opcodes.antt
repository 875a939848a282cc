-- The opcode that a byte or a name stands for.
use Rattle.std.specs.Prelude.{ℕ, ◌==◌, nat_eq, Bool, List, Option}
use Rattle.std.specs.List.{find}
use Rattle.std.specs.Cmp.Lexicographic.{pointwise}
use Rattle.rc_base.specs.declared.command.Opcode.{Opcode}
use Rattle.rc_base.specs.Formats.Commands.{table_row, opcodes, opcode_number}

abbrev pub has_number : ℕ → Opcode → Bool
has_number b o = opcode_number o == b

-- the opcode that a byte stands for
unfoldable pub opcode_of_byte : ℕ → Option Opcode
opcode_of_byte b = find (has_number b) opcodes

abbrev pub has_name : List ℕ → Opcode → Bool
has_name name o = pointwise nat_eq (table_row o).name name

-- the opcode that a name stands for
unfoldable pub opcode_of_name : List ℕ → Option Opcode
opcode_of_name name = find (has_name name) opcodes
