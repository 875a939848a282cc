use Rattle.std.proofs.Common.{◌≡◌, ℕ, ◌≤◌, ◌<◌, arith, ne_eqb, sym, ◌∙◌, false, inl, inr, true≢false}
use Rattle.std.proofs.lemmas.Bool.{cases_lt}
use Rattle.std.proofs.lemmas.Nat.Bits.{bit_at_above}
use Rattle.rc_base.specs.Orders.Journal.{has}
use Rattle.tile_server.proofs.ledger.holds_set.Goals as goal

none_above : (members client : ℕ) → members < 256 → 8 ≤ client → has members client ≡ false
none_above members client fits past = ne_eqb _ 1 (λ e. omega (arith, bit_at_above members 8 client fits past, e))

pub returns-clause-yes : goal.returns-clause-yes
returns-clause-yes c = λ t client member. elim (cases_lt client 8) [
  | inl lt ↦ c.loop-client.invariant client (omega (arith, c.loop-client-test.false, lt)) member
  | inr past ↦ absurd (true≢false (sym member ∙ none_above c.args.members client (omega (arith, c.ranges.members.fits)) past))
]
