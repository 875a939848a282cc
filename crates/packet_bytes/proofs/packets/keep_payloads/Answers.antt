use Rattle.packet_bytes.specs.Packets.{read_payloads}
use Rattle.packet_bytes.proofs.PacketsKept.{all_kept, none_kept}
use Rattle.packet_bytes.proofs.packets.keep_payloads.Goals as goal

pub returns-then-keep : goal.returns-then-keep
returns-then-keep g c =
    rw c.if-keep.true
    (all_kept g.L.PacketList.set g.L.PacketList.reader g.met.L.PacketList.agrees (λ r. r.now) (g.L.HoldsCommands.items c.args.commands.now) (g.L.HoldsCommands.items c.read_payloads.new.commands) c.read_payloads.result (read_payloads g.L.PacketList.reader c.args.opcodes.now c.args.bytes.now) c.read_payloads.ensures)

pub returns : goal.returns
returns g c =
    rw c.if-keep.false
    (none_kept g.L.PacketList.set g.L.PacketList.reader g.met.L.PacketList.agrees (λ r. r.now) (g.L.HoldsCommands.items c.args.commands.now) (g.L.HoldsCommands.items c.args.commands.now) (g.L.HoldsCommands.items c.read_payloads-2.new.commands) c.read_payloads-2.result (read_payloads g.L.PacketList.reader c.args.opcodes.now c.args.bytes.now)
    (rw c.empty-dropped.ensures at c.read_payloads-2.ensures))
