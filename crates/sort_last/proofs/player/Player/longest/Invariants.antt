use Rattle.std.proofs.Common.{ℕ, ◌<◌, ◌≤◌, length}
use Rattle.std.specs.Prelude.{slice_index_or}
use Rattle.draw_device.specs.declared.active.ActivePixels.{ActivePixels}
use Rattle.sort_last.proofs.player.Player.longest.Given as goal

abbrev pub invariant-loop-k : goal.invariant-loop-k
invariant-loop-k l = record {
  each : (j : ℕ) (a : ActivePixels) → j < l.count → j < l.k → length (slice_index_or l.self.layers.items j a).colors.items ≤ l.most;
}
