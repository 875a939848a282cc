use Rattle.std.proofs.Common.{◌≡◌, ◌<◌, ℕ, length, true, slice_index_or}
use Rattle.tile_server.specs.Tasks.{asks_in}
use Rattle.tile_server.proofs.tile_core.TileCore.asked.Given as goal

abbrev pub invariant-loop-client : goal.invariant-loop-client
invariant-loop-client l = (length l.asks ≡ 8) × ((client : ℕ) → client < l.client → slice_index_or l.asks client true ≡ asks_in l.self client)
