use Rattle.std.proofs.Common.{subst, sym, rules}
use Rattle.render_core.specs.Refusals.{IsNoOutcome}
use Rattle.render_core.specs.Stored.{work_in}
use Rattle.render_core.proofs.CarriedOut.{due_behind, undue_behind}
use Rattle.render_core.proofs.StoredWork.{as_work}
use Rattle.render_core.proofs.steps.due_of_source.Goals as goal

pub returns-in-Ok : goal.returns-in-Ok
returns-in-Ok g c = record {
  obtained =
      due_behind _ _ _ _ (work_in c.in_ok-work.work) (as_work _ _ _ _ c.in_ok-work.work c.in_ok-work.ensures.obtained) c.in-Ok.due c.in-Ok.ensures.suits
      c.in-Ok.ensures.due.outcome c.in-Ok.ensures.due.writable c.in-Ok.ensures.blank;
  later = search rules;
}

pub returns : goal.returns
returns g c = record {
  obtained =
      undue_behind _ _ _ _ (work_in c.in_ok-work.work) (as_work _ _ _ _ c.in_ok-work.work c.in_ok-work.ensures.obtained) c.in-Err.refusal
      (subst (IsNoOutcome c.args.job (work_in c.in_ok-work.work).scene) (sym c.in-Err.ensures.due.refused) tt);
  later = search rules;
}
