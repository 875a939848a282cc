use Rattle.std.proofs.Common.{◌≡◌, map}
use Rattle.std.specs.List.{range_with_len}
use Rattle.scene_file.specs.Generated.{opening_of}
use Rattle.scene_file.proofs.generator.openings.Given as goal

abbrev pub invariant-loop-client : goal.invariant-loop-client
invariant-loop-client l = l.streams.items ≡ map opening_of (range_with_len 0 l.client)
