use Rattle.std.proofs.Common.{◌≡◌, ◌≤◌, ◌<◌, ℕ, length, get_or}
use Rattle.tile_queues.specs.Grids.{IsAdded}
use Rattle.tile_queues.proofs.making.lane_row.Given as goal

abbrev pub invariant-loop-t : goal.invariant-loop-t
invariant-loop-t g l = record {
  size : length l.outs ≡ length l.fn.outs;
  row : length l.row.items ≡ l.t;
  added : (k : ℕ) (a : _) (d : _) → k < l.t → IsAdded l.depth (get_or l.row.items k a) (get_or l.fn.outs k d) (get_or l.outs k d);
  later : (k : ℕ) (d : _) → l.t ≤ k → get_or l.outs k d ≡ get_or l.fn.outs k d;
}
