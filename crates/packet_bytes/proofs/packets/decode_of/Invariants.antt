use Rattle.std.proofs.Common.{length}
use Rattle.packet_bytes.proofs.DecodingProgress.{Progress}
use Rattle.packet_bytes.proofs.packets.decode_of.Given as goal

abbrev pub invariant-loop-rest : goal.invariant-loop-rest
invariant-loop-rest g l = Progress g.L.PacketList.set g.L.PacketList.reader g.met.L.PacketList.agrees l.bytes l.room (g.L.HoldsCommands.items l.commands) l.count l.swaps l.rest

abbrev pub decreases-loop-rest : goal.decreases-loop-rest
decreases-loop-rest g l = length l.rest
