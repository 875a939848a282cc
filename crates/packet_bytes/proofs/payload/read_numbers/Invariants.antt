use Rattle.std.proofs.Common.{◌≡◌, length, take, drop}
use Rattle.packet_bytes.specs.Parts.{read_numbers}
use Rattle.byte_codec.specs.Reading.{with_front}
use Rattle.packet_bytes.proofs.payload.read_numbers.Given as goal

abbrev pub invariant-loop-i : goal.invariant-loop-i
invariant-loop-i l = (length l.room ≡ length l.fn.room) × (with_front (take l.i l.room) (read_numbers (drop l.i l.ranges) l.rest) ≡ read_numbers l.ranges l.bytes)
