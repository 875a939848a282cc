use Rattle.std.proofs.Common.{◌≡◌, ◌+◌, ◌<◌, ◌≤◌, ◌∙◌, ap, sym, refl, arith, subst, length, fold, map, true, ℕ}
use Rattle.std.specs.List.{range_with_len}
use Rattle.rc_base.specs.Cluster.Tiles.{is_in_rect}
use Rattle.rc_base.specs.Drawing.Nearer.{nearer}
use Rattle.rc_base.specs.Drawing.Window.{depth_most}
use Rattle.rc_base.specs.declared.window.Pixel.{Pixel}
use Rattle.rc_base.specs.declared.window.Rect.{Rect}
use Rattle.draw_device.specs.Active.{FitAmong, IsLayerOf}
use Rattle.draw_device.specs.Devices.{pixel_of, rect_size}
use Rattle.sort_last.specs.Layers.{layer_pixel}
use Rattle.sort_last.proofs.ComposedFrames.{layers_more, layers_near}
use Rattle.sort_last.proofs.DrawnFrames.{layer_inside, layer_is}
use Rattle.sort_last.proofs.compose.put_layers.Goals as goal

pub loop-client-init : goal.loop-client-init
loop-client-init c = record { rect = refl; drawn = λ x y inside. refl }

pub layer-layer-requires : goal.layer-layer-requires
layer-layer-requires c =
    let a = c.args in
    layer_inside a.batch.now.scene.now a.batch.now.first a.frame a.batch.now.end c.loop-client.client a.layers.now c.layers_at.result.now c.requires.frame.low c.requires.frame.less c.requires.layers
    (omega (arith, c.loop-client-test.true)) (c.layers_at.ensures c.layers_at.result.now)

pub take_nearer-requires-clause-fit : goal.take_nearer-requires-clause-fit
take_nearer-requires-clause-fit c =
    let a = c.args in
    subst (λ (r : Rect). FitAmong (rect_size r) c.layer-layer.result.now) (sym (c.loop-client.invariant.rect ∙ c.requires.rect))
    (layer_is a.batch.now.scene.now a.batch.now.first a.frame a.batch.now.end c.loop-client.client a.layers.now c.layers_at.result.now c.requires.frame.low c.requires.frame.less c.requires.layers
    (omega (arith, c.loop-client-test.true)) (c.layers_at.ensures c.layers_at.result.now) c.layer-layer.result.now c.layer-layer.ensures).fit

pub take_nearer-requires-clause-near : goal.take_nearer-requires-clause-near
take_nearer-requires-clause-near c x y inside =
    let a = c.args in
    let i = c.loop-client.invariant in
    let old : is_in_rect a.device.now.rect x y ≡ true = ap (λ (r : Rect). is_in_rect r x y) (sym i.rect) ∙ inside in
    let ps = map (λ c. layer_pixel a.batch.now.scene.now c (a.frame + 1) x y) (range_with_len 0 c.loop-client.client) in
    subst (λ (p : Pixel). p.depth ≤ depth_most) (sym (i.drawn x y old)) (layers_near ps (pixel_of a.device.now x y) (c.requires.near x y old))

pub loop-client-preserved : goal.loop-client-preserved
loop-client-preserved c =
    let a = c.args in
    let s = a.batch.now.scene.now in
    let i = c.loop-client.invariant in
    let client = c.loop-client.client in
    let lt : client < length a.layers.now = omega (arith, c.loop-client-test.true) in
    let layer = layer_is s a.batch.now.first a.frame a.batch.now.end client a.layers.now c.layers_at.result.now c.requires.frame.low c.requires.frame.less c.requires.layers lt
    (c.layers_at.ensures c.layers_at.result.now) c.layer-layer.result.now c.layer-layer.ensures in
    let here = subst (λ (r : Rect). IsLayerOf r (layer_pixel s client (a.frame + 1)) c.layer-layer.result.now) (sym (i.rect ∙ c.requires.rect)) layer in
    record {
      rect = c.take_nearer.ensures.rect ∙ i.rect;
      drawn = λ x y inside.
          let f = λ (k : ℕ). layer_pixel s k (a.frame + 1) x y in
          c.take_nearer.ensures.nearer (layer_pixel s client (a.frame + 1)) here x y (ap (λ (r : Rect). is_in_rect r x y) i.rect ∙ inside)
          ∙ ap (λ p. nearer p (f client)) (i.drawn x y inside)
          ∙ sym (layers_more f (pixel_of a.device.now x y) client);
    }

pub returns-clause-drawn : goal.returns-clause-drawn
returns-clause-drawn c x y inside =
    let a = c.args in
    let all : c.loop-client.client ≡ length a.batch.now.scene.now.streams = omega (arith, c.loop-client-test.false, c.loop-client.auto.client-end, c.requires.layers.count) in
    c.loop-client.invariant.drawn x y inside
    ∙ ap (λ n. fold nearer (pixel_of a.device.now x y) (map (λ k. layer_pixel a.batch.now.scene.now k (a.frame + 1) x y) (range_with_len 0 n))) all
