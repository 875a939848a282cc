-- Laws on the table of commands.
use Rattle.std.specs.Prelude.{◌≡◌}
use Rattle.rc_base.specs.declared.command.Opcode.{Opcode}
use Rattle.rc_base.specs.Formats.Commands.{table_row}

-- No two opcodes share a number.
abbrev pub OneNumber : Type 0
OneNumber = (one other : Opcode) → (table_row one).number ≡ (table_row other).number → one ≡ other

-- No two opcodes share a name.
abbrev pub OneName : Type 0
OneName = (one other : Opcode) → (table_row one).name ≡ (table_row other).name → one ≡ other
