use Rattle.std.proofs.Common.{◌≡◌, ◌∙◌, refl, ap, w32, to_z, of_z, to_z-of_z}
use lib.IntN.{nat_abs}
use Rattle.rc_base.specs.Numbers.{natural}
use Rattle.rc_base.specs.Drawing.PixelStep.{fragment_color}
use Rattle.fragment_ops.specs.DepthTests.{pixel}
use Rattle.draw_device.proofs.Steps.{natural_is, step_of}
use Rattle.draw_device.proofs.pixels.test_step.Goals as goal

pub returns : goal.returns
returns c s p f prepared through color depth =
    let a = c.args in
    let n : nat_abs (to_z w32 (of_z w32 a.depth)) ≡ natural a.depth = ap nat_abs (to_z-of_z c.ranges.depth) ∙ natural_is a.depth c.requires in
    c.put.ensures.stored s (fragment_color s p f) prepared through color
    ∙ step_of s p f (fragment_color s p f) a.depth _ (pixel a.stored_color.now a.stored_depth.now) c.requires refl depth n
