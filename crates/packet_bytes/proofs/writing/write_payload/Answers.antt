use Rattle.packet_bytes.proofs.PartsArePayloads.{payload_added, payload_typed}
use Rattle.packet_bytes.proofs.writing.write_payload.Goals as goal

pub returns-clause-added : goal.returns-clause-added
returns-clause-added c =
    let parts = c.parts_of.ensures in
    payload_added c.write_bytes.result c.args.command.now c.parts_of.result.0.now c.parts_of.result.1.now c.args.out.now c.write_numbers.new.out c.write_bytes.new.out
    parts.numbers_are parts.texels_are parts.in_range (rw (← c.opcode_of.ensures.opcode, ← c.ranges_of.ensures) c.in_ok-write_numbers.ensures) c.write_bytes.ensures.added c.write_bytes.ensures.typed

pub returns-clause-typed : goal.returns-clause-typed
returns-clause-typed c =
    let parts = c.parts_of.ensures in
    payload_typed c.write_bytes.result c.args.command.now c.parts_of.result.0.now c.parts_of.result.1.now c.args.out.now c.write_numbers.new.out c.write_bytes.new.out
    parts.numbers_are parts.texels_are parts.in_range (rw (← c.opcode_of.ensures.opcode, ← c.ranges_of.ensures) c.in_ok-write_numbers.ensures) c.write_bytes.ensures.typed
