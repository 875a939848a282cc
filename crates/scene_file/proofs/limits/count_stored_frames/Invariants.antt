use Rattle.std.proofs.Common.{◌≡◌, drop}
use Rattle.rc_base.specs.Formats.Limits.{least_swaps}
use Rattle.scene_file.proofs.LeastSwaps.{least_with}
use Rattle.scene_file.proofs.limits.count_stored_frames.Given as goal

abbrev pub invariant-loop-stream : goal.invariant-loop-stream
invariant-loop-stream l = least_with l.least (drop l.stream-index l.others) ≡ least_swaps l.fn.streams
