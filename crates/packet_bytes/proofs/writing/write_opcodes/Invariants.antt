use Rattle.std.proofs.Common.{◌≡◌, ◌++◌, take, map}
use Rattle.rc_base.specs.Formats.Spelling.{opcode_byte}
use Rattle.packet_bytes.proofs.writing.write_opcodes.Given as goal

abbrev pub invariant-loop-command : goal.invariant-loop-command
invariant-loop-command l = l.out ≡ l.fn.out ++ map opcode_byte (take l.command-index l.commands)
