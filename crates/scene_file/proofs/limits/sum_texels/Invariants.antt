use Rattle.std.proofs.Common.{◌≡◌, ◌+◌, ◌*◌, ◌≤◌, drop}
use Rattle.std.specs.Prelude.{sum_by}
use Rattle.rc_base.specs.Formats.Limits.{size_area}
use Rattle.scene_file.proofs.limits.sum_texels.Given as goal

abbrev pub invariant-loop-size : goal.invariant-loop-size
invariant-loop-size l = record { whole : l.sum + sum_by size_area (drop l.size-index l.sizes) ≡ sum_by size_area l.sizes; few : l.sum ≤ 4294836225 * l.size-index }
