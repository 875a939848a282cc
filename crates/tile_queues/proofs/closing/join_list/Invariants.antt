use Rattle.std.proofs.Common.{◌≡◌, ◌≤◌, ℕ, vec_len, vec_capacity, get_or, ◌+◌, ◌<◌}
use Rattle.std.specs.Vec.Iter.{into_iter_items, into_iter_len}
use Rattle.tile_queues.specs.Grids.{IsJoined}
use Rattle.tile_queues.proofs.closing.join_list.Given as goal

abbrev pub invariant-loop-a : goal.invariant-loop-a
invariant-loop-a g l = record {
  count : vec_len l.rests + into_iter_len l.a-iterator ≡ vec_len l.fn.ins;
  others : vec_len l.rests + into_iter_len l.others ≡ vec_len l.fn.outs;
  rest : (k : ℕ) (d : _) → k < into_iter_len l.a-iterator → get_or (into_iter_items l.a-iterator) k d ≡ get_or l.fn.ins.items (vec_len l.rests + k) d;
  other : (k : ℕ) (d : _) → k < into_iter_len l.others → get_or (into_iter_items l.others) k d ≡ get_or l.fn.outs.items (vec_len l.rests + k) d;
  room : vec_len l.fn.ins ≤ vec_capacity l.rests;
  each : (i : ℕ) (a : _) (b : _) (r : _) → i < vec_len l.rests
      → IsJoined (get_or l.fn.ins.items i a) (get_or l.fn.outs.items i b) (get_or l.rests.items i r);
}
