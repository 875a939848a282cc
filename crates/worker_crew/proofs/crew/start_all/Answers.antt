use Rattle.std.proofs.Common.{◌≡◌, vec_len, ◌+◌, get_or, arith, sym, subst}
use Rattle.std.proofs.lemmas.Grind.{common_steps}
use Rattle.rc_base.proofs.Paired.{each_push}
use Rattle.worker_crew.specs.Tasks.{IsStarted}
use Rattle.worker_crew.proofs.crew.start_all.Goals as goal

pub loop-worker-preserved : goal.loop-worker-preserved
loop-worker-preserved g c =
    let was = c.loop-worker.invariant in
    let step = c.in-Some.ensures.steps in
    let done = vec_len c.loop-worker.started in
    let all = c.push_reserved.new.self.items in
    let leads = g.W.Worker.leads in
    let over = g.W.Worker.over in
    let next : (d : _) → c.in-Some.worker ≡ get_or c.args.workers.items done d = λ d. let h = was.rest 0 d in grind (arith, common_steps) in
    record {
      count = grind (arith, common_steps);
      rest = λ k d below. let h = was.rest (k + 1) d in grind (arith, common_steps);
      room = grind (arith, common_steps);
      each = λ i d e below.
          each_push (λ _ a s. IsStarted leads over a s) c.args.workers.items c.loop-worker.started.items all c.start_with.result done
          (sym c.loop-worker.started.ok.0) c.push_reserved.ensures.items was.each
          (λ d. subst (λ a. IsStarted leads over a c.start_with.result) (next d) c.start_with.ensures)
          i d e (omega arith);
    }
