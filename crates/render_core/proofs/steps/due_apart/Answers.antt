use Rattle.std.proofs.Common.{sym, subst, rules}
use Rattle.run_words.specs.declared.job.Job.{Job}
use Rattle.render_core.specs.Due.{IsOutcome}
use Rattle.run_words.specs.Jobs.{ShowsNothing}
use Rattle.render_core.specs.Refusals.{IsNoOutcome, outcome_of}
use Rattle.render_core.specs.Scenes.{IsFor}
use Rattle.render_core.specs.Stored.{work_in}
use Rattle.render_core.proofs.CarriedOut.{due_behind, undue_behind}
use Rattle.render_core.proofs.StoredWork.{as_work}
use Rattle.render_core.proofs.steps.due_apart.Goals as goal

pub returns-in-Ok : goal.returns-in-Ok
returns-in-Ok g c = record {
  obtained =
      let work = work_in c.in_ok-work.work in
      let apart = sym c.requires.apart in
      due_behind _ _ _ _ work (as_work _ _ _ _ c.in_ok-work.work c.in_ok-work.ensures.obtained) c.in-Ok.due (subst (λ (j : Job). IsFor j work.scene) apart c.in-Ok.ensures.suits)
      (subst (λ (j : Job). IsOutcome j work (outcome_of c.in-Ok.due)) apart c.in-Ok.ensures.outcome) c.in-Ok.ensures.writable
      (λ shows. absurd (subst ShowsNothing c.requires.apart shows));
  later = search rules;
}

pub returns-in-Err : goal.returns-in-Err
returns-in-Err g c = record {
  obtained =
      let work = work_in c.in_ok-work.work in
      undue_behind _ _ _ _ work (as_work _ _ _ _ c.in_ok-work.work c.in_ok-work.ensures.obtained) c.in-Err.refusal
      (subst (λ (j : Job). IsNoOutcome j work.scene c.in-Err.refusal) (sym c.requires.apart) c.in-Err.ensures.refused);
  later = search rules;
}
