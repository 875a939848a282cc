use Rattle.std.proofs.Common.{◌∙◌, ap, sym, inl, inr, refl}
use Rattle.rc_base.specs.Drawing.PixelStep.{effect_step}
use Rattle.rc_base.specs.declared.state.Effect.{Effect}
use Rattle.rc_base.specs.declared.state.Effect.TheVariants as eff
use Rattle.draw_device.specs.Conditions.{shared_of}
use Rattle.draw_device.specs.Devices.{pixel_of}
use Rattle.draw_device.specs.Stored.{set_after}
use Rattle.textures.specs.Images.{texture_image}
use Rattle.tile_server.proofs.work.perform.Goals as goal

pub returns-in_default-clause-switched : goal.returns-in_default-clause-switched
returns-in_default-clause-switched c = record { rect = c.carry_out.ensures.rect; aimed = refl; switched = inl (record { of = refl; state = refl }) }

pub returns-clause-switched : goal.returns-clause-switched
returns-clause-switched c = record { rect = c.draw.ensures.rect; aimed = c.draw.ensures.aimed; switched = inr c.draw.ensures.switched }

pub returns-clause-drawn : goal.returns-clause-drawn
returns-clause-drawn c x y inside =
    let k = c.args.kept.now in
    c.draw.ensures.drawn x y inside
    ∙ ap (λ (e : Effect). effect_step k.state (texture_image k.images) (shared_of c.args.shared.now) e x y (pixel_of c.args.device.now x y)) (ap eff.Block c.listed.ensures ∙ sym c.in-Block.is)

pub returns-clause-shared : goal.returns-clause-shared
returns-clause-shared c = ap (λ (e : Effect). set_after e c.args.shared.now) (sym c.in-Block.is)
