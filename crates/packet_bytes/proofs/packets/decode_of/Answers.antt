use Rattle.std.proofs.Common.{◌<◌, length, sym}
use Rattle.packet_bytes.proofs.DecodingProgress.{progress_none, progress_more, decoded, front_fails, not_empty, empty}
use Rattle.packet_bytes.proofs.packets.decode_of.Goals as goal

pub loop-rest-init : goal.loop-rest-init
loop-rest-init g c = rw c.empty-commands.ensures (progress_none g.L.PacketList.set g.L.PacketList.reader g.met.L.PacketList.agrees c.args.bytes.now c.args.room)

pub loop-rest-preserved : goal.loop-rest-preserved
loop-rest-preserved g c =
    progress_more g.L.PacketList.set g.L.PacketList.reader g.met.L.PacketList.agrees c.args.bytes.now c.args.room (g.L.HoldsCommands.items c.loop-rest.commands) (g.L.HoldsCommands.items c.read_packet.new.commands) c.loop-rest.count c.loop-rest.swaps c.in-Ok.more c.loop-rest.rest.now c.in-Ok.after.now c.loop-rest.invariant
    (rw c.saturating_sub.ensures at c.in-Ok.ensures.found)

pub returns-in-Err-clause-fails : goal.returns-in-Err-clause-fails
returns-in-Err-clause-fails g c =
    let some : 0 < length c.loop-rest.rest.now = not_empty g.L.PacketList.set g.L.PacketList.reader g.met.L.PacketList.agrees (length c.loop-rest.rest.now) (sym c.loop-rest-test.ensures) in
    rw c.fault_at.ensures (front_fails g.L.PacketList.set g.L.PacketList.reader g.met.L.PacketList.agrees c.args.bytes.now c.loop-rest.invariant.all c.loop-rest.rest.now c.in-Err.error c.loop-rest.invariant.front some c.in-Err.ensures.fails)

pub returns-clause-found : goal.returns-clause-found
returns-clause-found g c = rw c.finish.ensures (decoded g.L.PacketList.set g.L.PacketList.reader g.met.L.PacketList.agrees c.args.bytes.now c.args.room _ c.loop-rest.rest.now c.loop-rest.invariant (empty g.L.PacketList.set g.L.PacketList.reader g.met.L.PacketList.agrees (length c.loop-rest.rest.now) (sym c.loop-rest-test.ensures)))
