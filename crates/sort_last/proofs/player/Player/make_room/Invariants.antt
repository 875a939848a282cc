use Rattle.std.proofs.Common.{◌≡◌, length}
use Rattle.sort_last.specs.Players.{StartsBatch}
use Rattle.sort_last.proofs.player.Player.make_room.Given as goal

abbrev pub invariant-loop : goal.invariant-loop
invariant-loop l = record {
  count : length l.self.layers.items ≡ l.counter;
  drawn : StartsBatch l.batch l.client l.self;
}
