use Rattle.std.proofs.Common.{◌≡◌, ◌+◌, fold, map}
use Rattle.std.specs.List.{range_with_len}
use Rattle.rc_base.specs.Drawing.Nearer.{nearer}
use Rattle.draw_device.specs.Devices.{EachTakes}
use Rattle.sort_last.specs.Layers.{layer_pixel}
use Rattle.sort_last.proofs.compose.put_layers.Given as goal

abbrev pub invariant-loop-client : goal.invariant-loop-client
invariant-loop-client l = record {
  rect : l.device.rect ≡ l.fn.device.rect;
  drawn : EachTakes (λ x y p. fold nearer p (map (λ c. layer_pixel l.batch.scene.now c (l.frame + 1) x y) (range_with_len 0 l.client))) l.fn.device l.device;
}
