use Rattle.std.proofs.Common.{◌≡◌, ◌≤◌, ◌<◌, ℕ, vec_len, get_or, take}
use Rattle.rc_base.specs.Lists.{IsFront}
use Rattle.tile_queues.specs.Ends.{sent_of, taken_of}
use Rattle.tile_queues.proofs.closing.close_list.Given as goal

abbrev pub invariant-loop-a : goal.invariant-loop-a
invariant-loop-a g l = record {
  short : vec_len l.ins ≤ vec_len l.fn.ins;
  ins : l.ins.items ≡ take (vec_len l.ins) l.fn.ins.items;
  outs : l.outs.items ≡ take (vec_len l.ins) l.fn.outs.items;
  ordered : (i : ℕ) (a b : _) → vec_len l.ins ≤ i → i < vec_len l.fn.ins
      → IsFront (taken_of (get_or l.fn.outs.items i b)) (sent_of (get_or l.fn.ins.items i a));
}

abbrev pub decreases-loop-a : goal.decreases-loop-a
decreases-loop-a g l = vec_len l.ins
