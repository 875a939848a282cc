use Rattle.std.proofs.Common.{sym, inl, inr}
use Rattle.command_table.proofs.ByOpcode.{no_opcode, opcode_at}
use Rattle.command_table.proofs.opcode.opcode_from.Goals as goal

pub returns-then-byte-eq0 : goal.returns-then-byte-eq0
returns-then-byte-eq0 c = sym (no_opcode c.args.byte (elim c.then-byte-eq0.either [ inl none ↦ inl none | inr past ↦ inr past.1 ]))

pub returns : goal.returns
returns c = opcode_at c.args.byte _ c.if-byte-eq0.false c.if-byte-gt36.false
