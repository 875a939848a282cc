use Rattle.std.proofs.Common.{◌≡◌, ◌<◌, ℕ, length, get_or}
use Rattle.tile_queues.proofs.making.columns.Given as goal

abbrev pub invariant-loop : goal.invariant-loop
invariant-loop g l = record {
  size : length l.outs.items ≡ l.counter;
  empty : (t : ℕ) (e : _) → t < l.counter → length (get_or l.outs.items t e).items ≡ 0;
}
