use Rattle.std.proofs.Common.{subst, sym}
use Rattle.rc_base.specs.Drawing.PixelStep.{effect_step}
use Rattle.rc_base.specs.declared.state.Effect.TheVariants as eff
use Rattle.geometry.specs.Listed.{listed_block}
use Rattle.textures.specs.Images.{texture_image}
use Rattle.draw_device.specs.Pixels.{pixels_of}
use Rattle.draw_device.specs.Conditions.{shared_of}
use Rattle.draw_device.specs.Devices.{DeviceView}
use Rattle.draw_device.specs.Prepared.{IsPreparedFor}
use Rattle.draw_device.proofs.BlockPixels.{block_steps}
use Rattle.draw_device.proofs.Places.{view_takes}
use Rattle.draw_device.proofs.device.Device.draw_prepared.Goals as goal

pub draw-requires-clause-prepared : goal.draw-requires-clause-prepared
draw-requires-clause-prepared c = subst (λ (v : DeviceView). IsPreparedFor c.args.state.now v.rect c.args.prepared.now) (sym c.self.view_is) c.requires.prepared

pub returns-clause-drawn : goal.returns-clause-drawn
returns-clause-drawn c =
    let s = c.args.state.now in
    let ps = c.args.privates.now in
    let ss = c.args.shareds.now in
    let block = listed_block c.args.block.now in
    let g = c.self.inside.grid.extent in
    let old = (pixels_of c.self.inside.grid.colors.items c.self.inside.grid.depths.items) in
    let new = (pixels_of c.draw.new.self.colors.items c.draw.new.self.depths.items) in
    view_takes (effect_step s (texture_image ps) (shared_of ss) (eff.Block block)) g c.draw.new.self.extent old new _ c.self.view_is c.draw.ensures.extent
    (block_steps s ps ss c.sampled_texture-texture.result.now block g old new c.sampled_texture-texture.ensures c.draw.ensures.drawn)
