use Rattle.std.proofs.Common.{◌≡◌, map}
use Rattle.scene_file.specs.Generated.{ended}
use Rattle.scene_file.proofs.generator.ended_streams.Given as goal

abbrev pub invariant-loop-stream : goal.invariant-loop-stream
invariant-loop-stream l = l.all ≡ map ended l.yielded
