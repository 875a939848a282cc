use Rattle.std.proofs.Common.{arith}
use Rattle.packet_bytes.proofs.DecodingProgress.{takes_by, breaks_by}
use Rattle.packet_bytes.proofs.packets.read_packet.Goals as goal

pub returns-clause-found : goal.returns-clause-found
returns-clause-found g c =
    takes_by g.L.PacketList.set g.L.PacketList.reader g.met.L.PacketList.agrees (λ x. (x.0, x.1.now)) c.args.bytes.now c.args.room (g.L.HoldsCommands.items c.args.commands.now) (g.L.HoldsCommands.items c.add_packet.new.commands) (λ i. omega (arith, c.type_inv.bytes i)) c.add_packet.result c.add_packet.ensures

pub returns-clause-fails : goal.returns-clause-fails
returns-clause-fails g c =
    breaks_by g.L.PacketList.set g.L.PacketList.reader g.met.L.PacketList.agrees (λ x. (x.0, x.1.now)) c.args.bytes.now c.args.room (g.L.HoldsCommands.items c.args.commands.now) (g.L.HoldsCommands.items c.add_packet.new.commands) (λ i. omega (arith, c.type_inv.bytes i)) c.add_packet.result c.add_packet.ensures
