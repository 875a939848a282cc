use Rattle.std.proofs.Common.{◌≡◌, ◌∙◌, ℕ, ◌<◌, ◌-◌, ◌^◌, true, ap, sym, arith}
use Rattle.std.proofs.lemmas.Nat.Bits.{bit_at_ones}
use Rattle.rc_base.specs.Orders.Journal.{has}
use Rattle.rc_base.specs.declared.state.Act.{Act}
use Rattle.client_issue.specs.Acts.{goes_to}
use Rattle.client_issue.proofs.acts.tiles_of.Goals as goal

every : (t : ℕ) → t < 32 → has (2 ^ 32 - 1) t ≡ true
every t h = rw (bit_at_ones 32 t h) (λ i. true)

pub returns-in-Shared : goal.returns-in-Shared
returns-in-Shared c t h = every t (omega (arith, h, c.requires)) ∙ sym (ap (λ (a : Act). goes_to c.args.layout.now c.args.state.now a t) c.in-Shared.is)

pub returns-in-Sync : goal.returns-in-Sync
returns-in-Sync c t h = every t (omega (arith, h, c.requires)) ∙ sym (ap (λ (a : Act). goes_to c.args.layout.now c.args.state.now a t) c.in-Sync.is)

pub returns-in-End : goal.returns-in-End
returns-in-End c t h = every t (omega (arith, h, c.requires)) ∙ sym (ap (λ (a : Act). goes_to c.args.layout.now c.args.state.now a t) c.in-End.is)
