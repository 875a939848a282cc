use Rattle.std.proofs.Common.{◌∷◌, [], length, ap, arith, length-append}
use Rattle.sort_last.specs.Players.{HoldLayers}
use Rattle.sort_last.specs.declared.sheet.ClientLayers.{ClientLayers}
use Rattle.sort_last.proofs.DrawnFrames.{client_pushed, no_frames}
use Rattle.sort_last.proofs.sheet.no_layers.Goals as goal

pub loop-preserved : goal.loop-preserved
loop-preserved c =
    let i = c.loop.invariant in
    let m : ClientLayers = record { layers = c.new.result } in
    record {
      count = omega (arith, ap length c.in_ok-push.ensures.items, length-append c.loop.layers.items (m ∷ []), i.count);
      each = client_pushed (λ client (l : ClientLayers). HoldLayers c.args.scene.now client 0 0 l.layers.items) c.loop.layers.items _ m c.loop.counter i.count
          c.in_ok-push.ensures.items i.each (no_frames c.args.scene.now c.loop.counter 0 _);
    }
