use Rattle.std.proofs.Common.{subst}
use Rattle.rc_base.specs.Drawing.PixelStep.{effect_step}
use Rattle.rc_base.specs.declared.state.Effect.TheVariants as eff
use Rattle.rc_base.specs.declared.state.State.{State}
use Rattle.draw_device.specs.Conditions.{shared_of}
use Rattle.draw_device.specs.Devices.{EachTakes}
use Rattle.geometry.specs.Listed.{listed_block}
use Rattle.textures.specs.Images.{texture_image}
use Rattle.tile_server.proofs.work.draw.Goals as goal

pub returns-clause-drawn : goal.returns-clause-drawn
returns-clause-drawn c =
    subst (λ (s : State). EachTakes (effect_step s (texture_image c.args.kept.now.images) (shared_of c.args.shared.now) (eff.Block (listed_block c.args.block.now))) c.args.device.now
    c.draw_prepared.new.self) c.settle.ensures.state c.draw_prepared.ensures.drawn
