use Rattle.std.proofs.Common.{◌≡◌, ℕ, ◌<◌, ◌≤◌, false}
use Rattle.rc_base.specs.Orders.Journal.{has}
use Rattle.client_issue.proofs.acts.next_tile.Given as goal

abbrev pub invariant-loop-tile : goal.invariant-loop-tile
invariant-loop-tile l = (t : ℕ) → l.from ≤ t → t < l.tile → has l.tiles t ≡ false
