use Rattle.worker_crew.specs.Tasks.{IsTask}
use Rattle.worker_crew.proofs.task.work_unless.Given as goal

abbrev pub invariant-loop : goal.invariant-loop
invariant-loop g l = (w : _) → IsTask g.W.Worker.leads g.W.Worker.over w l.fn.task → IsTask g.W.Worker.leads g.W.Worker.over w l.task
