use Rattle.std.proofs.Common.{◌≡◌, ℕ, ◌<◌, ◌++◌, length}
use Rattle.std.specs.Prelude.{slice_index_or}
use Rattle.std.specs.Vec.Iter.{into_iter_items}
use Rattle.sort_last.specs.Players.{HasDrawn}
use Rattle.sort_last.specs.declared.player.Player.{Player}
use Rattle.sort_last.proofs.player.all_begun.Given as goal

abbrev pub invariant-loop-one : goal.invariant-loop-one
invariant-loop-one l = record {
  whole : l.fn.made.items ≡ l.yielded ++ into_iter_items l.one-iterator;
  count : length l.players.items ≡ length l.yielded;
  each : (client : ℕ) (p : Player) → client < length l.yielded → HasDrawn l.scene client 0 0 (slice_index_or l.players.items client p);
}
