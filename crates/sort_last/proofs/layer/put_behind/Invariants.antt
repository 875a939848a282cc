use Rattle.std.proofs.Common.{◌≡◌, ℕ, ◌<◌, ◌≤◌, length}
use Rattle.rc_base.specs.Drawing.Nearer.{nearer}
use Rattle.sort_last.specs.Layers.{pixel_in}
use Rattle.sort_last.proofs.layer.put_behind.Given as goal

abbrev pub invariant-loop-place : goal.invariant-loop-place
invariant-loop-place l = record {
  size : length l.front.items ≡ length l.fn.front.items;
  done : (k : ℕ) → k < l.place → pixel_in l.front.items k ≡ nearer (pixel_in l.fn.front.items k) (pixel_in l.behind k);
  rest : (k : ℕ) → l.place ≤ k → pixel_in l.front.items k ≡ pixel_in l.fn.front.items k;
}
