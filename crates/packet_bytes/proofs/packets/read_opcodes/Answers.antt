use Rattle.byte_codec.specs.declared.fault.ReadError.TheVariants as errors
use Rattle.std.proofs.lemmas.Result.{err_from_is_err_and}
use Rattle.packet_bytes.specs.Packets.{read_opcodes}
use Rattle.packet_bytes.proofs.ReadsInTurn.{names_go_on, names_end, names_done}
use Rattle.packet_bytes.proofs.packets.read_opcodes.Goals as goal

pub returns-in_err-opcode : goal.returns-in_err-opcode
returns-in_err-opcode g c =
    let p = err_from_is_err_and c.from_residual-in_err-opcode.result c.from_residual-in_err-opcode.ensures.1 in
    rw (p.1, p.2) (names_end g.L.PacketList.set g.L.PacketList.reader g.met.L.PacketList.agrees (errors.Form c.in_err-opcode.field-0.0) c.loop.opcodes.items c.args.count c.loop.counter c.loop.rest.now (read_opcodes g.L.PacketList.reader c.args.count c.args.bytes.now) c.loop-test.true c.in_err-opcode.ensures c.loop.invariant)

pub loop-preserved : goal.loop-preserved
loop-preserved g c =
    rw c.in_ok-push.ensures.items (names_go_on g.L.PacketList.set g.L.PacketList.reader g.met.L.PacketList.agrees c.loop.opcodes.items c.args.count c.loop.counter c.loop.rest.now c.in_ok-opcode.opcode c.in_ok-opcode.after.now (read_opcodes g.L.PacketList.reader c.args.count c.args.bytes.now) c.loop-test.true c.in_ok-opcode.ensures c.loop.invariant)

pub returns : goal.returns
returns g c = names_done g.L.PacketList.set g.L.PacketList.reader g.met.L.PacketList.agrees c.loop.opcodes.items c.args.count c.loop.counter c.loop.rest.now (read_opcodes g.L.PacketList.reader c.args.count c.args.bytes.now) c.loop-test.false c.loop.invariant
