use Rattle.std.proofs.Common.{arith}
use Rattle.std.proofs.lemmas.Result.{err_from_is_err_and}
use Rattle.byte_codec.specs.Reading.{with_front}
use Rattle.packet_bytes.specs.Packets.{read_payloads}
use Rattle.packet_bytes.proofs.ReadsInTurn.{payloads_go_on, payloads_end, payloads_done}
use Rattle.packet_bytes.proofs.packets.read_payloads.Goals as goal

pub returns-in_err-rest : goal.returns-in_err-rest
returns-in_err-rest g c =
    let p = err_from_is_err_and c.from_residual-in_err-rest.result c.from_residual-in_err-rest.ensures.1 in
    let total = with_front (g.L.HoldsCommands.items c.args.commands.now) (read_payloads g.L.PacketList.reader c.args.opcodes.now c.args.bytes.now) in
    rw (p.1, p.2) (payloads_end g.L.PacketList.set g.L.PacketList.reader g.met.L.PacketList.agrees c.in_err-rest.field-0.0 (g.L.HoldsCommands.items c.loop-opcode.commands) c.args.opcodes.now c.loop-opcode.opcode-index c.opcode-item.result c.loop-opcode.rest.now total c.loop-opcode-test.true (rw c.opcode-item.is at c.in_err-rest.ensures.added) c.loop-opcode.invariant.read)

pub loop-opcode-preserved : goal.loop-opcode-preserved
loop-opcode-preserved g c =
    let total = with_front (g.L.HoldsCommands.items c.args.commands.now) (read_payloads g.L.PacketList.reader c.args.opcodes.now c.args.bytes.now) in
    let h = c.in_ok-rest.ensures.added in
    record {
      read = rw h.2 (payloads_go_on g.L.PacketList.set g.L.PacketList.reader g.met.L.PacketList.agrees (g.L.HoldsCommands.items c.loop-opcode.commands) c.args.opcodes.now c.loop-opcode.opcode-index c.opcode-item.result c.loop-opcode.rest.now h.0 c.in_ok-rest.rest.now total c.loop-opcode-test.true (rw c.opcode-item.is at h.1) c.loop-opcode.invariant.read);
      room = omega (arith, c.in_ok-rest.ensures.room, c.loop-opcode.invariant.room);
    }

pub returns : goal.returns
returns g c =
    let total = with_front (g.L.HoldsCommands.items c.args.commands.now) (read_payloads g.L.PacketList.reader c.args.opcodes.now c.args.bytes.now) in
    payloads_done g.L.PacketList.set g.L.PacketList.reader g.met.L.PacketList.agrees (g.L.HoldsCommands.items c.loop-opcode.commands) c.args.opcodes.now c.loop-opcode.opcode-index c.loop-opcode.rest.now total c.loop-opcode-test.false c.loop-opcode.invariant.read
