use Rattle.std.proofs.Common.{◌≡◌, ◌-◌}
use Rattle.byte_codec.specs.Reading.{with_front}
use Rattle.scene_file.specs.Reading.{read_times, read_size}
use Rattle.scene_file.proofs.header.read_sizes.Given as goal

abbrev pub invariant-loop : goal.invariant-loop
invariant-loop l = with_front l.sizes (read_times read_size (l.count - l.counter) l.rest) ≡ read_times read_size l.count l.bytes
