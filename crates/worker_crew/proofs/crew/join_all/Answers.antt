use Rattle.std.proofs.Common.{◌≡◌, vec_len, ◌+◌, get_or, arith, sym, subst, ◌∙◌}
use Rattle.std.proofs.lemmas.Grind.{common_steps}
use Rattle.rc_base.proofs.Paired.{each_push}
use Rattle.worker_crew.specs.Tasks.{IsStarted, IsTask}
use Rattle.worker_crew.proofs.crew.join_all.Goals as goal

pub loop-one-preserved : goal.loop-one-preserved
loop-one-preserved g c =
    let was = c.loop-one.invariant in
    let step = c.in-Some.ensures.steps in
    let done = vec_len c.loop-one.tasks in
    let all = c.push_reserved.new.self.items in
    let leads = g.W.Worker.leads in
    let over = g.W.Worker.over in
    let next : (d : _) → c.in-Some.one ≡ get_or c.args.started.items done d = λ d. let h = was.rest 0 d in grind (arith, common_steps) in
    record {
      count = grind (arith, common_steps);
      rest = λ k d below. let h = was.rest (k + 1) d in grind (arith, common_steps);
      room = grind (arith, common_steps);
      each = λ i d e below.
          each_push (λ _ s b. (a : _) → IsStarted leads over a s → IsTask leads over a b) c.args.started.items c.loop-one.tasks.items all c.joined.result done
          (sym c.loop-one.tasks.ok.0) c.push_reserved.ensures.items was.each
          (λ d. subst (λ s. (a : _) → IsStarted leads over a s → IsTask leads over a c.joined.result) (next d) c.joined.ensures)
          i d e (omega arith);
    }

pub returns : goal.returns
returns g c =
    let was = c.loop-one.invariant in
    let step = c.in-None.ensures.steps in
    let n : vec_len c.loop-one.tasks ≡ vec_len c.args.started = grind (arith, common_steps) in
    record {
      count = sym c.loop-one.tasks.ok.0 ∙ n ∙ c.args.started.ok.0;
      at = λ i d e low. was.each i d e (let k = c.args.started.ok.0 in omega arith);
    }
