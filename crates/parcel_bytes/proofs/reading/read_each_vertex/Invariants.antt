use Rattle.std.proofs.Common.{◌≡◌, ◌-◌}
use Rattle.byte_codec.specs.Reading.{with_front}
use Rattle.parcel_bytes.specs.Reading.{read_times, read_vertex}
use Rattle.parcel_bytes.proofs.reading.read_each_vertex.Given as goal

abbrev pub invariant-loop : goal.invariant-loop
invariant-loop l = with_front l.vertices (read_times read_vertex (l.count - l.counter) l.rest) ≡ read_times read_vertex l.count l.bytes
