use Rattle.std.proofs.Common.{◌≡◌, ◌≤◌, ℕ, length, vec_len, get_or, ◌+◌, ◌<◌}
use Rattle.std.specs.Vec.Iter.{into_iter_items, into_iter_len}
use Rattle.tile_queues.specs.Grids.{IsClosed}
use Rattle.tile_queues.proofs.closing.close_row.Given as goal

abbrev pub invariant-loop-a : goal.invariant-loop-a
invariant-loop-a g l = record {
  count : l.t + into_iter_len l.a-iterator ≡ vec_len l.fn.ins;
  rest : (k : ℕ) (d : _) → k < into_iter_len l.a-iterator → get_or (into_iter_items l.a-iterator) k d ≡ get_or l.fn.ins.items (l.t + k) d;
  size : length l.outs ≡ length l.fn.outs;
  later : (k : ℕ) (e : _) → l.t ≤ k → get_or l.outs k e ≡ get_or l.fn.outs k e;
  each : (k : ℕ) (d e : _) → k < l.t → IsClosed (get_or l.fn.ins.items k d) (get_or l.fn.outs k e) (get_or l.outs k e);
}
