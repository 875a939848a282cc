use Rattle.std.proofs.Common.{◌≡◌, ◌+◌, ◌<◌, ◌≤◌, ℕ, cond, slice_index, length}
use Rattle.rc_base.specs.Orders.Journal.{is_member}
use Rattle.order_model.proofs.walk.advance.Given as goal

abbrev pub invariant-loop-client : goal.invariant-loop-client
invariant-loop-client l = (length l.used ≡ 8)
    × ((c : ℕ) → c < l.client → slice_index l.used c ≡ cond (is_member l.clients l.entry c) (slice_index l.fn.used c + 1) (slice_index l.fn.used c))
    × ((c : ℕ) → l.client ≤ c → slice_index l.used c ≡ slice_index l.fn.used c)
