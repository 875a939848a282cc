use Rattle.world_model.proofs.OneRecord.{leave_one_record}
use Rattle.world_model.proofs.laws.finished_runs_leave_one_record.Goals as goal

pub returns : goal.returns
returns c = leave_one_record c.finished_runs_are_whole.ensures.one
