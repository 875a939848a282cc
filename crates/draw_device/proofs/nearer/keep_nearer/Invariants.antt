use Rattle.std.proofs.Common.{◌≡◌, ℕ, ◌+◌, ◌-◌, ◌<◌, ◌≤◌, length}
use Rattle.fragment_ops.specs.DepthTests.{pixel}
use Rattle.rc_base.specs.Drawing.Nearer.{nearer}
use Rattle.draw_device.specs.Pixels.{color_at, depth_at}
use Rattle.draw_device.proofs.nearer.keep_nearer.Given as goal

abbrev pub invariant-loop-j : goal.invariant-loop-j
invariant-loop-j l = record {
  colors : length l.colors ≡ length l.fn.colors;
  depths : length l.depths ≡ length l.fn.depths;
  done : (k : ℕ) → l.from ≤ k → k < l.from + l.j → pixel (color_at l.colors k) (depth_at l.depths k)
      ≡ nearer (pixel (color_at l.fn.colors k) (depth_at l.fn.depths k)) (pixel (color_at l.layer_colors (k - l.from)) (depth_at l.layer_depths (k - l.from)));
  below_colors : (k : ℕ) → k < l.from → color_at l.colors k ≡ color_at l.fn.colors k;
  below_depths : (k : ℕ) → k < l.from → depth_at l.depths k ≡ depth_at l.fn.depths k;
  rest_colors : (k : ℕ) → l.from + l.j ≤ k → color_at l.colors k ≡ color_at l.fn.colors k;
  rest_depths : (k : ℕ) → l.from + l.j ≤ k → depth_at l.depths k ≡ depth_at l.fn.depths k;
}
