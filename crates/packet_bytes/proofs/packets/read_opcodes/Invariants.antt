use Rattle.std.proofs.Common.{◌≡◌, ◌-◌}
use Rattle.packet_bytes.specs.Packets.{read_opcodes}
use Rattle.byte_codec.specs.Reading.{with_front}
use Rattle.packet_bytes.proofs.packets.read_opcodes.Given as goal

abbrev pub invariant-loop : goal.invariant-loop
invariant-loop g l = with_front l.opcodes.items (read_opcodes g.L.PacketList.reader (l.count - l.counter) l.rest) ≡ read_opcodes g.L.PacketList.reader l.count l.bytes
