use Rattle.std.proofs.Common.{◌≡◌, ◌+◌, ◌-◌, length}
use Rattle.rc_base.specs.Orders.Grant.{first}
use Rattle.sync_manager.specs.Stored.{meet_at}
use Rattle.sync_manager.proofs.search.first_meet.Given as goal

abbrev pub invariant-loop-before : goal.invariant-loop-before
invariant-loop-before l = first (meet_at l.counts l.waiting l.clients) (l.before + 1) (length l.counts - l.before) ≡ first (meet_at l.counts l.waiting l.clients) 1 (length l.counts)
