use Rattle.std.proofs.Common.{None, ℕ, List, sym, subst, rules}
use Rattle.run_words.specs.declared.job.Job.TheVariants.{Check}
use Rattle.render_core.specs.Due.{IsOutcome, work_on}
use Rattle.render_core.proofs.Dues.{check_due}
use Rattle.render_core.proofs.due.check.Goals as goal

pub report_of-requires : goal.report_of-requires
report_of-requires g c = c.in_ok-run.ensures.default.few

pub returns-clause-due : goal.returns-clause-due
returns-clause-due g c = record {
  outcome =
      let work = work_on (g.S.SceneStore.scene c.args.scene.now) c.args.refused.now c.args.counted.now in
      let run = c.in_ok-run.run' in
      let is = c.in_ok-run.ensures.default in
      let notes = c.in_ok-notes.notes in
      let ending = c.ending_of.result in
      subst (λ (l : List ℕ). IsOutcome Check work (record { image = l; notes = notes; ending = ending; kept = None })) (sym c.new.ensures)
      (check_due work run is ending c.ending_of.ensures notes (c.in_ok-notes.ensures (g.S.SceneStore.scene c.args.scene.now) is));
  writable = search rules;
  refused = search rules;
}
