use Rattle.std.proofs.Common.{◌≡◌, ◌∙◌, ap, refl, w32, to_z, of_z, to_z-of_z}
use lib.IntN.{nat_abs}
use Rattle.rc_base.specs.Numbers.{natural}
use Rattle.rc_base.specs.Drawing.PixelStep.{fragment_color}
use Rattle.fragment_ops.specs.DepthTests.{pixel}
use Rattle.draw_device.proofs.Steps.{natural_is, kept_step}
use Rattle.draw_device.proofs.hidden.passes_step.Goals as goal

pub returns : goal.returns
returns c fails s p f color prepared depth =
    let old = pixel color c.args.stored in
    let n : nat_abs (to_z w32 (of_z w32 c.args.depth)) ≡ natural c.args.depth = ap nat_abs (to_z-of_z c.ranges.depth) ∙ natural_is c.args.depth c.requires in
    kept_step s p f c.args.depth _ old c.requires depth n (c.passes.ensures.kept fails s (fragment_color s p f) old prepared refl)
