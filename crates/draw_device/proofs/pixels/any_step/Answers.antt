use Rattle.std.proofs.Common.{◌∙◌, sym, ap, to_z-of_z}
use Rattle.raster.specs.Colors.{is_depth}
use Rattle.fragment_ops.specs.DepthTests.{pixel}
use Rattle.draw_device.proofs.Steps.{failed_step, beyond_step}
use Rattle.draw_device.proofs.pixels.any_step.Goals as goal

pub returns-then-not-passes : goal.returns-then-not-passes
returns-then-not-passes c s p f prepared flag color depth =
    sym (failed_step s p f (pixel c.args.stored_color.now c.args.stored_depth.now) (sym flag ∙ c.if-not-passes.true))

pub returns-then-not-is_depth : goal.returns-then-not-is_depth
returns-then-not-is_depth c s p f prepared flag color depth =
    sym (beyond_step s p f (pixel c.args.stored_color.now c.args.stored_depth.now)
    (ap is_depth (sym (to_z-of_z c.ranges.depth ∙ depth)) ∙ sym c.is_depth.ensures ∙ c.if-not-is_depth.true))

pub returns : goal.returns
returns c s p f prepared flag color depth = c.test_step.ensures s p f prepared (sym flag ∙ c.if-not-passes.false) color (to_z-of_z c.ranges.depth ∙ depth)

pub test_step-requires : goal.test_step-requires
test_step-requires c = sym c.is_depth.ensures ∙ c.if-not-is_depth.false
