use Rattle.std.proofs.Common.{◌≡◌, ◌≤◌, ◌<◌, ℕ, length, vec_len, get_or, take}
use Rattle.rc_base.specs.Lists.{IsFront}
use Rattle.tile_queues.specs.Ends.{sent_of, taken_of}
use Rattle.tile_queues.proofs.closing.close_all.Given as goal

abbrev pub invariant-loop-row : goal.invariant-loop-row
invariant-loop-row g l = record {
  short : vec_len l.ins ≤ vec_len l.fn.ins;
  ins : l.ins.items ≡ take (vec_len l.ins) l.fn.ins.items;
  size : length l.outs ≡ length l.fn.outs;
  outs : (t : ℕ) (e : _) → t < length l.fn.outs → (get_or l.outs t e).items ≡ take (vec_len l.ins) (get_or l.fn.outs t e).items;
  ordered : (c t : ℕ) (d : _) (e : _) (a : _) (b : _) → vec_len l.ins ≤ c → c < vec_len l.fn.ins → t < length l.fn.outs
      → IsFront (taken_of (get_or (get_or l.fn.outs t e).items c b)) (sent_of (get_or (get_or l.fn.ins.items c d).items t a));
}

abbrev pub decreases-loop-row : goal.decreases-loop-row
decreases-loop-row g l = vec_len l.ins
