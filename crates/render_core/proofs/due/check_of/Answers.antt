use Rattle.run_words.specs.declared.job.Job.TheVariants.{Check}
use Rattle.render_core.proofs.StoredWork.{made_with}
use Rattle.render_core.proofs.due.check_of.Goals as goal

pub returns-clause-due : goal.returns-clause-due
returns-clause-due c = made_with Check c.args.work.now _ _ c.as_slice.ensures c.as_slice-2.ensures c.check.result c.check.ensures.due
