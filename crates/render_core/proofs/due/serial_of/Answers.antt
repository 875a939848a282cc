use Rattle.run_words.specs.declared.job.Job.TheVariants.{Serial}
use Rattle.render_core.proofs.StoredWork.{made_with}
use Rattle.render_core.proofs.due.serial_of.Goals as goal

pub returns : goal.returns
returns c = made_with Serial c.args.work.now _ _ c.as_slice.ensures c.as_slice-2.ensures c.serial.result c.serial.ensures
