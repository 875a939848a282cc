use Rattle.std.proofs.Common.{◌≡◌, ◌+◌, ◌-◌, ◌<◌, ◌∙◌, ap, sym, arith, subst, length, fold}
use Rattle.rc_base.specs.Cluster.Tiles.{window_rect}
use Rattle.rc_base.specs.Contexts.Issue.{context_after}
use Rattle.rc_base.specs.declared.scene.Decl.{Decl}
use Rattle.rc_base.specs.Orders.Order.{names_from}
use Rattle.rc_base.specs.Orders.Sync.{sync_row_of}
use Rattle.draw_device.specs.Devices.{pixel_of}
use Rattle.serial_render.specs.Shown.{AreShownOn, images_of}
use Rattle.serial_render.specs.Steps.{Holds}
use Rattle.sort_last.specs.Layers.{composed_pixel}
use Rattle.sort_last.specs.Players.{shows, draw_if}
use Rattle.sort_last.specs.declared.play.DrawPass.TheVariants as pass
use Rattle.sort_last.proofs.ComposedFrames.{background_near, composed_next}
use Rattle.sort_last.proofs.DrawnFrames.{some_streams}
use Rattle.sort_last.proofs.compose.Window.compose_frame.Goals as goal

pub frame_names-names-requires-clause-client : goal.frame_names-names-requires-clause-client
frame_names-names-requires-clause-client c = some_streams c.args.batch.now.scene.now c.args.batch.now.ready.within

pub frame_names-names-requires-clause-frame : goal.frame_names-names-requires-clause-frame
frame_names-names-requires-clause-frame c = c.requires.frame.less

pub play-requires-clause-names : goal.play-requires-clause-names
play-requires-clause-names c = c.frame_names-names.ensures.stand

pub play-requires-clause-before : goal.play-requires-clause-before
play-requires-clause-before c =
    let n = c.frame_names-names.ensures in
    c.requires.before.composed.clears ∙ (λ i. context_after c.args.batch.now.scene.now (sym n.client_is i) (sym n.from_is i))

pub put_layers-requires-clause-near : goal.put_layers-requires-clause-near
put_layers-requires-clause-near c =
    let b = c.args.batch.now in
    let s = b.scene.now in
    let n = c.frame_names-names.ensures in
    let some = some_streams s b.ready.within in
    let frame = c.args.frame in
    let old = c.args.self.now.device in
    let played = c.in_ok-play.ensures in
    let inside : frame < length (sync_row_of s 0).ops = omega (arith, c.requires.frame.less, b.frames 0 some) in
    background_near s b.ready.composable frame some inside old c.play.new.device played.rect c.requires.before.composed.holds
    (λ x y within. played.drawn x y within ∙ (λ i. fold (draw_if s x y (shows pass.Clears s)) (pixel_of old x y) (names_from (n.client_is i) (n.from_is i) (n.to_is i - n.from_is i))))

pub returns : goal.returns
returns c =
    let b = c.args.batch.now in
    let s = b.scene.now in
    let n = c.frame_names-names.ensures in
    let some = some_streams s b.ready.within in
    let frame = c.args.frame in
    let old = c.args.self.now.device in
    let before = c.requires.before.composed in
    let played = c.in_ok-play.ensures in
    let inside : frame < length (sync_row_of s 0).ops = omega (arith, c.requires.frame.less, b.frames 0 some) in
    let device = c.put_layers.new.device in
    let holds : Holds device (composed_pixel s (frame + 1)) =
    composed_next s b.ready.composable frame some inside old c.play.new.device played.rect before.holds
    (λ x y within. played.drawn x y within ∙ (λ i. fold (draw_if s x y (shows pass.Clears s)) (pixel_of old x y) (names_from (n.client_is i) (n.from_is i) (n.to_is i - n.from_is i))))
    device c.put_layers.ensures.rect c.put_layers.ensures.drawn in
    let shown = c.in_ok-show_up_to.ensures in
    let images = subst (λ (d : Decl). AreShownOn d device (frame + 1) c.args.self.now.frames c.show_up_to.new.frames) c.decl.ensures shown.images in
    let count : length c.show_up_to.new.frames ≡ frame + 1 = omega (arith, shown.count, before.count) in
    record {
      layers = c.requires.before.layers;
      composed = record {
        clears = played.context ∙ (λ i. context_after s (n.client_is i) (n.to_is i));
        rect = c.put_layers.ensures.rect ∙ played.rect ∙ before.rect;
        holds = holds;
        count = count;
        shown = images (composed_pixel s) (before.shown ∙ ap (images_of s.decl (composed_pixel s)) (sym before.count))
            (λ k low high.
            let at : frame + 1 ≡ k = omega (arith, low, high, before.count) in
            subst (λ m. Holds device (composed_pixel s m)) at holds)
            ∙ ap (images_of s.decl (composed_pixel s)) count;
      };
    }

pub put_layers-requires-clause-rect : goal.put_layers-requires-clause-rect
put_layers-requires-clause-rect c = c.in_ok-play.ensures.rect ∙ c.requires.before.composed.rect

pub show_up_to-requires : goal.show_up_to-requires
show_up_to-requires c =
    c.put_layers.ensures.rect ∙ c.in_ok-play.ensures.rect ∙ c.requires.before.composed.rect ∙ ap (λ (d : Decl). window_rect d.width d.height) (sym c.decl.ensures)
