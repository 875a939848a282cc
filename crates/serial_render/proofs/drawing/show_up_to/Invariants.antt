use Rattle.std.proofs.Common.{◌≡◌, ℕ, ◌<◌, ◌≤◌, length}
use Rattle.std.specs.Prelude.{max}
use Rattle.rc_base.specs.Drawing.Images.{Pixels}
use Rattle.serial_render.specs.Shown.{images_of}
use Rattle.serial_render.specs.Steps.{Holds}
use Rattle.serial_render.proofs.drawing.show_up_to.Given as goal

abbrev pub invariant-loop : goal.invariant-loop
invariant-loop l = record {
  count : length l.frames ≡ l.counter;
  most : l.counter ≤ max (length l.fn.frames) l.count;
  images : (pictures : ℕ → Pixels) → l.fn.frames ≡ images_of l.decl pictures (length l.fn.frames)
      → ((k : ℕ) → length l.fn.frames < k → k ≤ l.count → Holds l.device (pictures k)) → l.frames ≡ images_of l.decl pictures (length l.frames);
}
