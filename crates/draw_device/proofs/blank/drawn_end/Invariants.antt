use Rattle.std.proofs.Common.{◌≡◌, ℕ, ◌+◌, ◌<◌, ◌≤◌, length}
use Rattle.rc_base.specs.Drawing.Window.{depth_most}
use Rattle.draw_device.specs.Pixels.{depth_at}
use Rattle.draw_device.proofs.blank.drawn_end.Given as goal

abbrev pub invariant-loop-passed : goal.invariant-loop-passed
invariant-loop-passed l = record {
  far : (j : ℕ) → l.end ≤ j + l.passed → j < length l.depths → depth_at l.depths j ≡ depth_most;
}
