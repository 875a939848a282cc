use Rattle.std.proofs.Common.{◌≡◌, ◌<◌, ◌≤◌, ℕ, length, cond, None}
use Rattle.rc_base.specs.Orders.Journal.{is_member}
use Rattle.sync_manager.specs.Stored.{wait_at}
use Rattle.sync_manager.proofs.unit.release.Given as goal

abbrev pub invariant-loop-client : goal.invariant-loop-client
invariant-loop-client l = (length l.waiting ≡ 8)
    × ((c : ℕ) → c < l.client → wait_at l.waiting c ≡ cond (is_member l.clients l.entry c) None (wait_at l.fn.waiting c))
    × ((c : ℕ) → l.client ≤ c → wait_at l.waiting c ≡ wait_at l.fn.waiting c)
