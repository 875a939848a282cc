use Rattle.std.proofs.Common.{◌≡◌, drop, map}
use Rattle.rc_base.specs.Formats.Limits.{first_outside, barrier_count}
use Rattle.scene_file.proofs.limits.judge_barriers.Given as goal

abbrev pub invariant-loop-count : goal.invariant-loop-count
invariant-loop-count l = first_outside (map barrier_count (drop l.count-index l.counts)) ≡ first_outside (map barrier_count l.counts)
