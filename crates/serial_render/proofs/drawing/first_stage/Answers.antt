use Rattle.std.proofs.Common.{◌≡◌, ℕ, Option, ◌∙◌, ap, sym, arith}
use Rattle.std.specs.Option.{option_map_or}
use Rattle.rc_base.specs.Cluster.Tiles.{is_in_rect, window_rect}
use Rattle.rc_base.specs.declared.scene.Decl.{Decl}
use Rattle.rc_base.specs.declared.window.Rect.{Rect}
use Rattle.textures.proofs.Stored.{blank}
use Rattle.stream_replay.proofs.ClientsInTurn.{first_clients}
use Rattle.serial_render.proofs.PlayedOrders.{first_shown}
use Rattle.serial_render.proofs.drawing.first_stage.Goals as goal

pub returns : goal.returns
returns g c order =
    let s = g.S.SceneStore.scene c.args.scene.now in
    let sides : c.window.result ≡ window_rect s.decl.width s.decl.height = c.window.ensures.sides ∙ ap (λ (d : Decl). window_rect d.width d.height) c.decl-2.ensures in
    record {
      issued = first_clients s c.in_ok-clients.clients.items c.in_ok-clients.ensures;
      texels = rw (c.in_ok-shared.ensures, c.decl.ensures) (blank s);
      settled = λ client x of at.
          let no = ap {B = ℕ} (λ (o : Option ℕ). option_map_or (λ k. 1) o 0) (sym c.new-brush.ensures ∙ of) in
          absurd (omega (arith, no));
      shown = first_shown s order c.in_ok-device.device c.new-3.result (c.in_ok-device.ensures.rect ∙ sides)
          (λ x y inside. c.in_ok-device.ensures.blank x y (ap (λ (r : Rect). is_in_rect r x y) sides ∙ inside)) c.new-3.ensures;
    }
