use Rattle.std.proofs.Common.{◌≡◌, Ok, refl}
use Rattle.std.proofs.lemmas.Result.{err_from_is_err_and}
use Rattle.packet_bytes.specs.Packets.{read_opcodes}
use Rattle.packet_bytes.proofs.PacketsKept.{count_failed, opcodes_failed, payloads_failed, packet_read, counted}
use Rattle.packet_bytes.proofs.packets.add_packet.Goals as goal

pub returns-in_err-count : goal.returns-in_err-count
returns-in_err-count g c =
    let p = err_from_is_err_and c.from_residual.result c.from_residual.ensures.1 in
    rw (p.1, p.2) (count_failed g.L.PacketList.set g.L.PacketList.reader g.met.L.PacketList.agrees c.args.bytes.now c.in_err-count.field-0.0 c.in_err-count.ensures)

pub returns-in_err-opcodes : goal.returns-in_err-opcodes
returns-in_err-opcodes g c =
    let p = err_from_is_err_and c.from_residual-in_err-opcodes.result c.from_residual-in_err-opcodes.ensures.1 in
    rw (p.1, p.2) (opcodes_failed g.L.PacketList.set g.L.PacketList.reader g.met.L.PacketList.agrees c.args.bytes.now c.in_ok-count.count c.in_ok-count.rest.now c.in_err-opcodes.field-0.0 c.in_ok-count.ensures c.in_err-opcodes.ensures)

pub returns-in_err-rest : goal.returns-in_err-rest
returns-in_err-rest g c =
    let p = err_from_is_err_and c.from_residual-in_err-rest.result c.from_residual-in_err-rest.ensures.1 in
    rw (p.1, p.2)
    (payloads_failed g.L.PacketList.set g.L.PacketList.reader g.met.L.PacketList.agrees c.args.bytes.now c.in_ok-count.count c.in_ok-count.rest.now c.as_slice-opcodes.result.now c.in_ok-opcodes.rest.now c.in_err-rest.field-0.0 c.in_ok-count.ensures
    (rw c.as_slice-opcodes.ensures.value c.in_ok-opcodes.ensures) c.in_err-rest.ensures)

pub returns : goal.returns
returns g c =
    let h = c.in_ok-rest.ensures in
    let n = c.in_ok-count.count in
    let opcodes : read_opcodes g.L.PacketList.reader n c.in_ok-count.rest.now ≡ Ok (c.as_slice-opcodes.result.now, c.in_ok-opcodes.rest.now) = rw c.as_slice-opcodes.ensures.value c.in_ok-opcodes.ensures in (
      h.0,
      packet_read g.L.PacketList.set g.L.PacketList.reader g.met.L.PacketList.agrees c.args.bytes.now n c.in_ok-count.rest.now c.as_slice-opcodes.result.now c.in_ok-opcodes.rest.now h.0 c.in_ok-rest.rest.now c.in_ok-count.ensures opcodes h.1,
      counted g.L.PacketList.set g.L.PacketList.reader g.met.L.PacketList.agrees (record { commands = n; swaps = c.count_swaps-swaps.result }) n c.in_ok-count.rest.now c.as_slice-opcodes.result.now c.in_ok-opcodes.rest.now h.0 c.in_ok-rest.rest.now opcodes h.1
          refl c.count_swaps-swaps.ensures,
      h.2,
    )
