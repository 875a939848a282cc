use Rattle.std.proofs.Common.{◌≡◌, ℕ, ◌<◌, ◌≤◌, length}
use Rattle.rc_base.specs.Drawing.Nearer.{nearer}
use Rattle.sort_last.specs.Layers.{pixel_in}
use Rattle.sort_last.proofs.layer.put_before.Given as goal

abbrev pub invariant-loop-place : goal.invariant-loop-place
invariant-loop-place l = record {
  size : length l.behind.items ≡ length l.fn.behind.items;
  done : (k : ℕ) → k < l.place → pixel_in l.behind.items k ≡ nearer (pixel_in l.front k) (pixel_in l.fn.behind.items k);
  rest : (k : ℕ) → l.place ≤ k → pixel_in l.behind.items k ≡ pixel_in l.fn.behind.items k;
}
