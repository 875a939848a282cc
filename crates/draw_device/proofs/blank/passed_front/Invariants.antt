use Rattle.std.proofs.Common.{◌≡◌, ℕ, ◌*◌, ◌<◌}
use Rattle.rc_base.specs.Drawing.Window.{depth_most}
use Rattle.draw_device.specs.Pixels.{depth_at}
use Rattle.draw_device.proofs.blank.passed_front.Given as goal

abbrev pub invariant-loop-step : goal.invariant-loop-step
invariant-loop-step l = record {
  far : (j : ℕ) → j < l.step * 32 → depth_at l.depths j ≡ depth_most;
}
