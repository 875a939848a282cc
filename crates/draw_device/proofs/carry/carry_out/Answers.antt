use Rattle.std.proofs.Common.{◌∙◌, ap, sym}
use Rattle.rc_base.specs.Drawing.PixelStep.{effect_step}
use Rattle.rc_base.specs.declared.state.Effect.{Effect}
use Rattle.textures.specs.Images.{texture_image}
use Rattle.draw_device.specs.Conditions.{shared_of}
use Rattle.draw_device.specs.Devices.{pixel_of}
use Rattle.draw_device.proofs.carry.carry_out.Goals as goal

pub write-requires-clause-low : goal.write-requires-clause-low
write-requires-clause-low c = (c.requires.writable c.in-Shared.part c.in-Shared.is).low

pub write-requires-clause-high : goal.write-requires-clause-high
write-requires-clause-high c = (c.requires.writable c.in-Shared.part c.in-Shared.is).high

pub returns-in-Clear-clause-drawn : goal.returns-in-Clear-clause-drawn
returns-in-Clear-clause-drawn c x y inside =
    let privates = texture_image c.args.privates.now in
    let shareds = shared_of c.args.shared.now in
    let old = pixel_of c.args.device.now x y in
    c.clear.ensures.drawn privates shareds x y inside
    ∙ sym (ap (λ (e : Effect). effect_step c.args.state.now privates shareds e x y old) c.in-Clear.is)
