use Rattle.std.proofs.Common.{◌≡◌, ◌+◌, ◌≤◌, drop, length}
use Rattle.byte_codec.specs.Reading.{with_front}
use Rattle.packet_bytes.specs.Packets.{read_payloads}
use Rattle.packet_bytes.proofs.packets.read_payloads.Given as goal

abbrev pub invariant-loop-opcode : goal.invariant-loop-opcode
invariant-loop-opcode g l = record {
  read : with_front (g.L.HoldsCommands.items l.commands) (read_payloads g.L.PacketList.reader (drop l.opcode-index l.opcodes) l.rest) ≡ with_front (g.L.HoldsCommands.items l.fn.commands) (read_payloads g.L.PacketList.reader l.opcodes l.bytes);
  room : length l.opcodes ≤ g.L.HoldsCommands.room l.commands + l.opcode-index;
}
