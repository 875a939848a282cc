use Rattle.std.proofs.Common.{ℕ, ◌<◌, ◌≤◌, length}
use Rattle.std.specs.Prelude.{slice_index_or}
use Rattle.sort_last.specs.Players.{HoldLayers, HasDrawn}
use Rattle.sort_last.specs.declared.player.Player.{Player}
use Rattle.sort_last.specs.declared.sheet.ClientLayers.{ClientLayers}
use Rattle.sort_last.proofs.player.exchange_layers.Given as goal

abbrev pub invariant-loop-client : goal.invariant-loop-client
invariant-loop-client l = record {
  drawn : (k : ℕ) (p : Player) → k < l.client
      → HasDrawn l.batch.scene.now k l.batch.end l.batch.end (slice_index_or l.players k p);
  drawn_left : (k : ℕ) (p : Player) → l.client ≤ k → k < length l.players
      → HasDrawn l.batch.scene.now k l.batch.first l.batch.end (slice_index_or l.players k p);
  held : (k : ℕ) (m : ClientLayers) → k < l.client → HoldLayers l.batch.scene.now k l.batch.first l.batch.end (slice_index_or l.layers k m).layers.items;
  held_left : (k : ℕ) (m : ClientLayers) → l.client ≤ k → k < length l.layers
      → HoldLayers l.batch.scene.now k l.batch.first l.batch.first (slice_index_or l.layers k m).layers.items;
}
