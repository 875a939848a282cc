use Rattle.std.proofs.Common.{◌≡◌, ℕ, ◌<◌}
use Rattle.rc_base.specs.Drawing.Window.{depth_most}
use Rattle.draw_device.specs.Pixels.{depth_at}
use Rattle.draw_device.proofs.blank.drawn_start.Given as goal

abbrev pub invariant-loop-k : goal.invariant-loop-k
invariant-loop-k l = record {
  far : (j : ℕ) → j < l.k → depth_at l.depths j ≡ depth_most;
}
