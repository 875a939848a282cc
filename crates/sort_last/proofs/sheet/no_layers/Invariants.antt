use Rattle.std.proofs.Common.{◌≡◌, ℕ, ◌<◌, length}
use Rattle.std.specs.Prelude.{slice_index_or}
use Rattle.sort_last.specs.Players.{HoldLayers}
use Rattle.sort_last.specs.declared.sheet.ClientLayers.{ClientLayers}
use Rattle.sort_last.proofs.sheet.no_layers.Given as goal

abbrev pub invariant-loop : goal.invariant-loop
invariant-loop l = record {
  count : length l.layers.items ≡ l.counter;
  each : (client : ℕ) (m : ClientLayers) → client < l.counter → HoldLayers l.scene client 0 0 (slice_index_or l.layers.items client m).layers.items;
}
