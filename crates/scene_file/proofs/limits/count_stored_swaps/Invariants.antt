use Rattle.std.proofs.Common.{◌≡◌, ◌≤◌, take}
use Rattle.rc_base.specs.Formats.Limits.{swaps_in}
use Rattle.scene_file.proofs.limits.count_stored_swaps.Given as goal

abbrev pub invariant-loop-place : goal.invariant-loop-place
invariant-loop-place l = (l.count ≡ swaps_in (take l.place l.fn.commands)) × (l.count ≤ l.place)
