use Rattle.worker_crew.specs.Tasks.{IsStarted, StartedGoOn}
use Rattle.worker_crew.proofs.scope.attend.Given as goal

abbrev pub invariant-loop : goal.invariant-loop
invariant-loop g l = record {
  clients : StartedGoOn g.A.Worker.leads g.A.Worker.over l.fn.crew.clients.items l.crew.clients.items;
  manager : (w : _) → IsStarted g.B.Worker.leads g.B.Worker.over w l.fn.crew.manager → IsStarted g.B.Worker.leads g.B.Worker.over w l.crew.manager;
  tiles : StartedGoOn g.C.Worker.leads g.C.Worker.over l.fn.crew.tiles.items l.crew.tiles.items;
  served : g.J.Foreground.served l.fn.foreground l.foreground;
}
