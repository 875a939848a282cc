use Rattle.std.proofs.Common.{ap, ◌∙◌}
use Rattle.rc_base.specs.Drawing.PixelStep.{effect_step}
use Rattle.rc_base.specs.declared.state.Block.{Block}
use Rattle.rc_base.specs.declared.state.Effect.TheVariants as eff
use Rattle.textures.specs.Images.{texture_image}
use Rattle.draw_device.specs.Conditions.{shared_of}
use Rattle.draw_device.specs.Devices.{pixel_of}
use Rattle.draw_device.proofs.device.Device.draw.Goals as goal

pub returns-clause-drawn : goal.returns-clause-drawn
returns-clause-drawn c x y inside =
    c.draw_prepared.ensures.drawn x y inside
    ∙ ap (λ (b : Block). effect_step c.args.state.now (texture_image c.args.privates.now) (shared_of c.args.shareds.now) (eff.Block b) x y (pixel_of c.args.self.now x y)) c.listed-listed.ensures
