use Rattle.std.proofs.Common.{◌≡◌, ℕ, ◌<◌, ◌≤◌, true}
use Rattle.rc_base.specs.Drawing.Window.{depth_most}
use Rattle.draw_device.specs.Pixels.{depth_at}
use Rattle.draw_device.proofs.blank.are_far.Given as goal

abbrev pub invariant-loop-k : goal.invariant-loop-k
invariant-loop-k l = record {
  low : l.fn.from ≤ l.k;
  far : l.far ≡ true → (j : ℕ) → l.fn.from ≤ j → j < l.k → depth_at l.depths j ≡ depth_most;
}
