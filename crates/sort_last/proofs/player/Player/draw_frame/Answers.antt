use Rattle.std.proofs.Common.{◌-◌, ◌<◌, ◌∙◌, ap, sym, refl, arith, length, fold}
use Rattle.std.proofs.lemmas.List.{length-set}
use Rattle.rc_base.specs.Contexts.Issue.{context_after}
use Rattle.rc_base.specs.Drawing.Serial.{blank_pixel}
use Rattle.rc_base.specs.Orders.Order.{names_from}
use Rattle.rc_base.specs.Orders.Sync.{sync_row_of}
use Rattle.sort_last.specs.Players.{scene_window, shows, draw_if}
use Rattle.sort_last.specs.declared.play.DrawPass.TheVariants as pass
use Rattle.sort_last.proofs.DrawnFrames.{frame_added, layer_same}
use Rattle.sort_last.proofs.player.Player.draw_frame.Goals as goal

pub frame_names-names-requires-clause-frame : goal.frame_names-names-requires-clause-frame
frame_names-names-requires-clause-frame c = c.requires.frame.less

pub draw-requires-clause-names : goal.draw-requires-clause-names
draw-requires-clause-names c = c.frame_names-names.ensures.stand

pub draw-requires-clause-before : goal.draw-requires-clause-before
draw-requires-clause-before c =
    let n = c.frame_names-names.ensures in
    c.requires.before.context ∙ (λ i. context_after c.args.batch.now.scene.now (sym n.client_is i) (sym n.from_is i))

pub returns-clause-room : goal.returns-clause-room
returns-clause-room c = omega (arith, c.requires.room, length-set c.args.self.now.layers.items (c.args.frame - c.args.batch.now.first) c.draw.new.layer)

pub returns-clause-after : goal.returns-clause-after
returns-clause-after c =
    let b = c.args.batch.now in
    let s = b.scene.now in
    let n = c.frame_names-names.ensures in
    let names = c.frame_names-names.result in
    let drawn = c.in_ok-draw.ensures in
    let inside : c.args.frame < length (sync_row_of s c.args.client).ops = omega (arith, c.requires.frame.less, b.frames c.args.client c.requires.client) in
    record {
      context = drawn.context ∙ (λ i. context_after s (n.client_is i) (n.to_is i));
      sheet = drawn.sheet;
      layers = frame_added s b.ready.composable c.args.client c.args.frame c.requires.client inside b.first names.from names.to c.draw.new.layer c.args.self.now.layers.items _
          c.requires.frame.low (omega (arith, c.requires.room, c.requires.frame.less)) n.from_is n.to_is
          (layer_same _ (scene_window s) _ _ c.draw.new.layer refl
          (λ x y inside. ap (λ k. fold (draw_if s x y (shows pass.Layer s)) blank_pixel (names_from k names.from (names.to - names.from))) n.client_is) drawn.layer)
          refl c.requires.before.layers;
    }
