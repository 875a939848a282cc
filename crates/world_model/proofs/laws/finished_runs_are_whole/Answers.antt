use Rattle.world_model.proofs.FinishedRuns.{finished_whole, finished_one}
use Rattle.world_model.proofs.laws.finished_runs_are_whole.Goals as goal

pub returns-clause-whole : goal.returns-clause-whole
returns-clause-whole c = finished_whole c.schedules_keep_worlds_sound.ensures.runs c.ended_worlds_are_lawful.ensures
    c.ended_worlds_are_whole.ensures.frames c.ended_worlds_are_whole.ensures.waiting c.ended_worlds_are_whole.ensures.tallies

pub returns-clause-one : goal.returns-clause-one
returns-clause-one c = finished_one c.one_schedule_has_one_run.ensures
