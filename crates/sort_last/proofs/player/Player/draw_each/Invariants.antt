use Rattle.std.proofs.Common.{◌≤◌}
use Rattle.sort_last.specs.Players.{HasPlayed, HasLayerRoom}
use Rattle.sort_last.proofs.player.Player.draw_each.Given as goal

abbrev pub invariant-loop-frame : goal.invariant-loop-frame
invariant-loop-frame l = record {
  low : l.batch.first ≤ l.frame;
  room : HasLayerRoom l.batch l.self;
  drawn : HasPlayed l.batch l.client l.frame l.self;
}
