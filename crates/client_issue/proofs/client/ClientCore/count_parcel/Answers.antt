use Rattle.std.proofs.Common.{◌∙◌, ◌+◌, ℕ, min, refl, sym, ap, arith}
use Rattle.rc_base.specs.Outside.Causes.{last_count}
use Rattle.client_issue.proofs.Prepared.{tallied_by}
use Rattle.client_issue.proofs.client.ClientCore.count_parcel.Goals as goal

pub returns-clause-tallied : goal.returns-clause-tallied
returns-clause-tallied c p sets cost =
    let old = c.index_mut-tally.result.now in
    tallied_by c.args.self.now _ c.args.tile c.from.result old _ _ p c.args.looks refl c.from.ensures (omega (arith, c.requires, c.args.self.now.tallied)) c.index_mut-tally.ensures.value cost
    (λ i. record { parcels = c.saturating_add-tally.ensures i; sets = (c.saturating_add-tally-2.ensures ∙ ap (λ (n : ℕ). min (old.sets + n) last_count) (sym sets)) i; looks = c.saturating_add-tally-3.ensures i })
