use Rattle.std.proofs.Common.{◌≡◌, drop, map}
use Rattle.std.specs.List.{flat_map}
use Rattle.rc_base.specs.Formats.Limits.{first_outside, side}
use Rattle.scene_file.proofs.limits.judge_sides.Given as goal

abbrev pub invariant-loop-size : goal.invariant-loop-size
invariant-loop-size l = first_outside (map side (flat_map (λ size. size) (drop l.size-index l.sizes))) ≡ first_outside (map side (flat_map (λ size. size) l.sizes))
