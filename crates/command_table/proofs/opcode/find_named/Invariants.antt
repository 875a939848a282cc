use Rattle.std.proofs.Common.{◌≡◌, drop}
use Rattle.std.specs.List.{find}
use Rattle.command_table.specs.Opcodes.{has_name}
use Rattle.command_table.proofs.opcode.find_named.Given as goal

-- no opcode so far has the name
abbrev pub invariant-loop-opcode : goal.invariant-loop-opcode
invariant-loop-opcode l = find (has_name l.name) (drop l.opcode-index l.opcodes) ≡ find (has_name l.name) l.opcodes
