use Rattle.std.proofs.Common.{◌≡◌, ◌<◌, ◌≤◌, ℕ, false, cond, length, slice_index_or}
use Rattle.rc_base.specs.Orders.Journal.{is_member}
use Rattle.tile_server.proofs.ledger.release.Given as goal

abbrev pub invariant-loop-client : goal.invariant-loop-client
invariant-loop-client l = (length l.held ≡ 8)
    × ((c : ℕ) → c < l.client → slice_index_or l.held c false ≡ cond (is_member l.clients l.entry c) false (slice_index_or l.fn.held c false))
    × ((c : ℕ) → l.client ≤ c → slice_index_or l.held c false ≡ slice_index_or l.fn.held c false)
