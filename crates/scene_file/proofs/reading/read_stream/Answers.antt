use Rattle.std.proofs.Common.{arith}
use Rattle.std.proofs.lemmas.Result.{err_from_is_err_and}
use Rattle.byte_codec.specs.declared.fault.ReadError.TheVariants as errors
use Rattle.packet_bytes.specs.Packets.{decoded_as}
use Rattle.scene_file.proofs.StreamsInTurn.{text_field, text_decoded, text_fails}
use Rattle.scene_file.proofs.reading.read_stream.Goals as goal

pub returns-in_err-text-clause-fails : goal.returns-in_err-text-clause-fails
returns-in_err-text-clause-fails g c =
    let p = err_from_is_err_and c.from_residual.result c.from_residual.ensures.1 in
    rw (p.1, p.2) (text_field g.L.PacketList.set c.args.bytes.now (errors.Form c.in_err-text.field-0.0) (λ i. omega (arith, c.type_inv.bytes i)) c.in_err-text.ensures)

pub returns-in-Ok-clause-found : goal.returns-in-Ok-clause-found
returns-in-Ok-clause-found g c =
    text_decoded g.L.PacketList.set g.L.PacketList.reader.shows c.args.bytes.now c.in_ok-text.text.now c.in_ok-text.after.now c.args.room (decoded_as g.L.PacketList.kept c.in-Ok.decoded) (λ i. omega (arith, c.type_inv.bytes i)) c.in_ok-text.ensures c.in-Ok.ensures.found

pub returns-in-Err-clause-fails : goal.returns-in-Err-clause-fails
returns-in-Err-clause-fails g c =
    rw c.in_stream.ensures (text_fails g.L.PacketList.set c.args.bytes.now c.in_ok-text.text.now c.in_ok-text.after.now c.in-Err.fault (λ i. omega (arith, c.type_inv.bytes i)) c.in_ok-text.ensures c.in-Err.ensures.fails)
