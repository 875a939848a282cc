use Rattle.std.proofs.Common.{arith}
use Rattle.sync_manager.proofs.ManagerSteps.{none_left_step, finished_step}
use Rattle.sync_manager.proofs.FoundLanes.{there}
use Rattle.sync_manager.proofs.manager.ManagerCore.rest.Goals as goal

pub returns-then-self-client-clause-step : goal.returns-then-self-client-clause-step
returns-then-self-client-clause-step c =
    let s = c.args.self.now in
    none_left_step s c.loop-client.client (omega (arith, c.clients-client-end.ensures)) (there s.left c.loop-client.client c.if-self-client.true) c.requires

pub returns-clause-step : goal.returns-clause-step
returns-clause-step c = finished_step c.args.self.now (λ client low. c.loop-client.invariant client (omega (arith, c.clients-client-end.ensures))) c.requires
