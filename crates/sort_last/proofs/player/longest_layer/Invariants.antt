use Rattle.std.proofs.Common.{ℕ, ◌<◌}
use Rattle.std.specs.Prelude.{slice_index_or}
use Rattle.sort_last.specs.Players.{AreAtMost}
use Rattle.sort_last.specs.declared.player.Player.{Player}
use Rattle.sort_last.proofs.player.longest_layer.Given as goal

abbrev pub invariant-loop-client : goal.invariant-loop-client
invariant-loop-client l = record {
  each : (k : ℕ) (p : Player) → k < l.client → AreAtMost l.count l.most (slice_index_or l.players k p);
}
