-- What is kept of the client is fit to draw with, and so the block is drawn.
use Rattle.std.proofs.Common.{◌≡◌, ℕ, Option, Some, None, sym, ap, ◌∙◌, subst}
use Rattle.std.specs.Prelude.{slice_get}
use Rattle.std.specs.Option.{option_map_or}
use Rattle.rc_base.specs.Cluster.Parcels.{effect_by}
use Rattle.rc_base.specs.Contexts.Context.{default_state}
use Rattle.rc_base.specs.Drawing.PixelStep.{effect_step}
use Rattle.rc_base.specs.Drawing.Texel.{shared_picture}
use Rattle.rc_base.specs.declared.state.Effect.{Effect}
use Rattle.rc_base.specs.declared.state.Effect.TheVariants as eff
use Rattle.rc_base.specs.declared.window.Rect.{Rect}
use Rattle.draw_device.specs.Devices.{pixel_of}
use Rattle.geometry.specs.Listed.{listed_block}
use Rattle.order_model.specs.Board.{Kept}
use Rattle.tile_server.specs.Kepts.{kept_of}
use Rattle.tile_server.specs.Works.{texels_in, IsRectOf}
use Rattle.tile_server.specs.declared.kept.KeptClient.{KeptClient}
use Rattle.tile_server.proofs.DrawnParcels.{effect_is, kept_at, texel_sampled}
use Rattle.tile_server.proofs.PlainBlocks.{draws_one}
use Rattle.tile_server.proofs.Switches.{switched_to}
use Rattle.tile_server.proofs.canvas.Canvas.draw_block.Goals as goal

pub draw-requires-clause-hardware : goal.draw-requires-clause-hardware
draw-requires-clause-hardware c =
    let canvas = c.args.self.now in
    let k = c.index.result.now in
    let at = kept_at canvas.kept.items c.from.result c.args.client k c.from.ensures c.requires.client c.index.ensures in
    record {
      aimed = canvas.aimed;
      known = λ named. canvas.switched.same c.args.client k named (subst (λ (n : ℕ). slice_get canvas.kept.items n ≡ Some k) c.from.ensures at);
    }

pub draw-requires-clause-drawable : goal.draw-requires-clause-drawable
draw-requires-clause-drawable c =
    let canvas = c.args.self.now in
    let k = c.index.result.now in
    let at = kept_at canvas.kept.items c.from.result c.args.client k c.from.ensures c.requires.client c.index.ensures in
    record { texel = texel_sampled canvas.decl (kept_of k) canvas.shared (canvas.fit.each c.from.result k at) canvas.whole }

pub returns-clause-drawn : goal.returns-clause-drawn
returns-clause-drawn c x y inside =
    let canvas = c.args.self.now in
    let k = c.index.result.now in
    let at = kept_at canvas.kept.items c.from.result c.args.client k c.from.ensures c.requires.client c.index.ensures in
    let here = subst (λ (n : ℕ). slice_get canvas.kept.items n ≡ Some k) c.from.ensures at in
    let old = pixel_of canvas.device x y in
    let first : Kept = record { state = default_state canvas.decl; image = λ name. None } in
    c.draw.ensures.drawn x y inside
    ∙ effect_is canvas.decl (kept_of k) canvas.shared (canvas.fit.each c.from.result k at) canvas.whole (eff.Block (listed_block c.spelt.result)) x y old
    ∙ ap (λ (e : Effect). effect_step k.state (kept_of k).image (shared_picture canvas.decl.shared (texels_in canvas.shared)) e x y old)
    (ap eff.Block c.spelt.ensures ∙ sym (ap effect_by c.in-Some.ensures))
    ∙ ap (λ (o : Option KeptClient). effect_step (option_map_or kept_of o first).state (option_map_or kept_of o first).image (shared_picture canvas.decl.shared (texels_in canvas.shared)) (effect_by c.args.parcel.now.act) x y old) (sym here)

pub returns-in_default-clause-drawn : goal.returns-in_default-clause-drawn
returns-in_default-clause-drawn c = absurd (draws_one c.args.parcel.now.act c.requires.draws c.in_default.ensures)

pub invariant_of-self : goal.invariant_of-self
invariant_of-self c =
    let canvas = c.args.self.now in
    let k = c.index.result.now in
    let at = kept_at canvas.kept.items c.from.result c.args.client k c.from.ensures c.requires.client c.index.ensures in
    record {
      place = subst (λ (r : Rect). IsRectOf canvas.layout canvas.tile r) (sym c.draw.ensures.rect) canvas.place;
      whole = canvas.whole;
      fit = canvas.fit;
      aimed = c.draw.ensures.aimed ∙ canvas.aimed ∙ sym c.draw.ensures.rect;
      switched = switched_to canvas.kept.items c.args.client k c.draw.new.hw (subst (λ (n : ℕ). slice_get canvas.kept.items n ≡ Some k) c.from.ensures at) c.draw.ensures.switched;
    }
