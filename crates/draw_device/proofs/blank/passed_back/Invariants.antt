use Rattle.std.proofs.Common.{◌≡◌, ℕ, ◌+◌, ◌*◌, ◌<◌, ◌≤◌, length}
use Rattle.rc_base.specs.Drawing.Window.{depth_most}
use Rattle.draw_device.specs.Pixels.{depth_at}
use Rattle.draw_device.proofs.blank.passed_back.Given as goal

abbrev pub invariant-loop-step : goal.invariant-loop-step
invariant-loop-step l = record {
  far : (j : ℕ) → length l.depths ≤ j + l.step * 32 → j < length l.depths → depth_at l.depths j ≡ depth_most;
}
