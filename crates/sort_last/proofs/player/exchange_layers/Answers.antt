use Rattle.std.proofs.Common.{◌<◌, sym, ◌∙◌, subst, refl, length, arith}
use Rattle.std.specs.Prelude.{Vec}
use Rattle.std.specs.Global.{Global}
use Rattle.draw_device.specs.declared.active.ActivePixels.{ActivePixels}
use Rattle.sort_last.specs.Players.{HoldLayers, HasDrawn, IsBlankSheet, scene_window}
use Rattle.sort_last.specs.declared.player.Player.{Player}
use Rattle.sort_last.specs.declared.sheet.ClientLayers.{ClientLayers}
use Rattle.sort_last.proofs.DrawnFrames.{no_frames, client_set, clients_left}
use Rattle.sort_last.proofs.player.exchange_layers.Goals as goal

pub loop-client-init : goal.loop-client-init
loop-client-init c =
    let h = c.requires in
    record {
      drawn = λ k p lt. absurd (omega (arith, lt));
      drawn_left = λ k p ge lt. h.drawn.each k p (omega (arith, lt, h.drawn.count));
      held = λ k m lt. absurd (omega (arith, lt));
      held_left = λ k m ge lt. h.spare.each k m (omega (arith, lt, h.spare.count));
    }

pub loop-client-preserved : goal.loop-client-preserved
loop-client-preserved c =
    let b = c.args.batch.now in
    let s = b.scene.now in
    let i = c.loop-client.invariant in
    let client = c.loop-client.client in
    let p = c.exchange.new.self in
    let m = c.exchange.new.layers in
    let e = c.exchange.ensures in
    let in_players : client < length c.loop-client.players = omega (arith, c.loop-client-test.true, c.loop-client.auto.players) in
    let in_layers : client < length c.loop-client.layers =
    omega (arith, c.loop-client-test.true, c.loop-client.auto.layers, c.requires.drawn.count, c.requires.spare.count) in
    let had = i.drawn_left client c.index-players-client.result (omega arith) in_players in
    let drawn : HasDrawn s client b.end b.end p = record {
      context = e.context ∙ had.context;
      sheet = subst (IsBlankSheet (scene_window s)) (sym e.sheet) had.sheet;
      layers = no_frames s client b.end p.layers.items;
    } in
    let held : HoldLayers s client b.first b.end m.layers.items = subst (λ (v : Vec ActivePixels Global). HoldLayers s client b.first b.end v.items) (sym e.layers) had.layers in
    record {
      drawn = client_set (λ k (q : Player). HasDrawn s k b.end b.end q) c.loop-client.players _ p client in_players refl i.drawn drawn;
      drawn_left = clients_left (λ k (q : Player). HasDrawn s k b.first b.end q) c.loop-client.players _ p client in_players refl i.drawn_left;
      held = client_set (λ k (l : ClientLayers). HoldLayers s k b.first b.end l.layers.items) c.loop-client.layers _ m client in_layers refl i.held held;
      held_left = clients_left (λ k (l : ClientLayers). HoldLayers s k b.first b.first l.layers.items) c.loop-client.layers _ m client in_layers refl i.held_left;
    }

pub returns-clause-players : goal.returns-clause-players
returns-clause-players c =
    let h = c.requires.drawn in
    record {
      count = c.loop-client.auto.players ∙ h.count;
      each = λ k p lt. c.loop-client.invariant.drawn k p (omega (arith, lt, c.loop-client-test.false, h.count));
    }

pub returns-clause-layers : goal.returns-clause-layers
returns-clause-layers c =
    let h = c.requires in
    record {
      count = c.loop-client.auto.layers ∙ h.spare.count;
      each = λ k m lt. c.loop-client.invariant.held k m (omega (arith, lt, c.loop-client-test.false, h.drawn.count));
    }
