use Rattle.std.proofs.Common.{refl, sym}
use Rattle.client_issue.specs.Deeds.ClientDeed.{Loses}
use Rattle.client_issue.proofs.Steps.{step_from, step_lost}
use Rattle.client_issue.proofs.client.ClientCore.step.Goals as goal

pub returns-in-Ok-clause-step : goal.returns-in-Ok-clause-step
returns-in-Ok-clause-step g c =
    let e = c.in-Ok.ensures in
    let s = c.send-in-Ok.ensures.step in (
      s.0,
      sym s.2,
      step_from c.args.self.now c.prepare.new.self c.send-in-Ok.new.self (record { same = e.same; short = e.short; still = c.prepare.ensures.still; left = e.left; tallies = c.prepare.ensures.tallies }) s.0 s.1 s.3,
      s.4,
      s.5,
    )

pub returns-in-Err-clause-step : goal.returns-in-Err-clause-step
returns-in-Err-clause-step g c =
    let e = c.prepare.ensures in
    let lost = c.in-Err.ensures.err in
    (Loses, refl, step_lost c.args.self.now c.prepare.new.self e.same lost.1 lost.0 lost.2 e.tallies, refl, refl)
