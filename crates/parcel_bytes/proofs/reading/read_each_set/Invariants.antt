use Rattle.std.proofs.Common.{◌≡◌, ◌-◌}
use Rattle.byte_codec.specs.Reading.{with_front}
use Rattle.parcel_bytes.specs.Reading.{read_times, read_set}
use Rattle.parcel_bytes.proofs.reading.read_each_set.Given as goal

abbrev pub invariant-loop : goal.invariant-loop
invariant-loop l = with_front l.sets (read_times read_set (l.count - l.counter) l.rest) ≡ read_times read_set l.count l.bytes
