use Rattle.worker_crew.proofs.Ends.{still_started}
use Rattle.worker_crew.proofs.scope.run_crew.Goals as goal

pub returns-clause-over : goal.returns-clause-over
returns-clause-over g c =
    let started = c.args.ready.crew in
    record {
      clients = c.join_crew.ensures.clients _ (still_started g.A.Worker.leads g.A.Worker.over _ _ _ c.start_all.ensures.started c.attend.ensures.clients);
      manager = c.join_crew.ensures.manager _ (c.attend.ensures.manager _ c.start_with.ensures);
      tiles = c.join_crew.ensures.tiles _ (still_started g.C.Worker.leads g.C.Worker.over _ _ _ c.start_all-2.ensures.started c.attend.ensures.tiles);
    }
