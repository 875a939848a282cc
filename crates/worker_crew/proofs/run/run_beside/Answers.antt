use Rattle.std.proofs.Common.{subst}
use Rattle.worker_crew.specs.Crews.{HaveEnded}
use Rattle.worker_crew.proofs.run.run_beside.Goals as goal

pub returns-clause-run : goal.returns-clause-run
returns-clause-run g c =
    let did = c.run_in_scope.ensures in (
      did.0,
      did.1,
      did.2,
      subst (λ crew. HaveEnded g.A.Worker.leads g.A.Worker.over g.B.Worker.leads g.B.Worker.over g.C.Worker.leads g.C.Worker.over crew did.1) c.in_ok-ready.ensures did.3,
      did.4,
    )
