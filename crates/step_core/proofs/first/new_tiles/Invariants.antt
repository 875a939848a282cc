use Rattle.std.proofs.Common.{◌≡◌, ℕ, ◌<◌, length}
use Rattle.std.specs.Prelude.{slice_index_or}
use Rattle.tile_server.specs.declared.tile_core.TileCore.{TileCore}
use Rattle.step_core.specs.Runnable.{IsNewTileCore}
use Rattle.step_core.proofs.first.new_tiles.Given as goal

abbrev pub invariant-loop-tile : goal.invariant-loop-tile
invariant-loop-tile l = record {
  count : length l.cores.items ≡ l.tile;
  new : (i : ℕ) (d : TileCore) → i < l.tile → IsNewTileCore l.decl l.clients l.layout i (slice_index_or l.cores.items i d);
}
