use Rattle.std.proofs.Common.{◌≡◌, ◌-◌}
use Rattle.byte_codec.specs.Reading.{with_front}
use Rattle.scene_file.specs.Reading.{read_times, read_half}
use Rattle.scene_file.proofs.header.read_units.Given as goal

abbrev pub invariant-loop : goal.invariant-loop
invariant-loop l = with_front l.units (read_times read_half (l.count - l.counter) l.rest) ≡ read_times read_half l.count l.bytes
