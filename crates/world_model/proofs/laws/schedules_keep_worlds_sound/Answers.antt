use Rattle.world_model.proofs.NewWorldsAreSound.{new_sound}
use Rattle.world_model.proofs.SchedulesKeepSound.{move_keeps, schedule_keeps, run_sound}
use Rattle.world_model.proofs.laws.schedules_keep_worlds_sound.Goals as goal

pub returns-clause-first : goal.returns-clause-first
returns-clause-first c = new_sound c.sends_are_parcels.ensures.split c.managers_are_right.ensures.first c.new_tiles_stand.ensures

pub returns-clause-next : goal.returns-clause-next
returns-clause-next c = move_keeps record {
  books = c.books_stay_legal.ensures.legal;
  managers = c.managers_are_right.ensures.step;
  steps = c.steps_stand.ensures;
  shows = c.swaps_show_frames.ensures.recorded;
}

pub returns-clause-all : goal.returns-clause-all
returns-clause-all c = schedule_keeps record {
  books = c.books_stay_legal.ensures.legal;
  managers = c.managers_are_right.ensures.step;
  steps = c.steps_stand.ensures;
  shows = c.swaps_show_frames.ensures.recorded;
}

pub returns-clause-runs : goal.returns-clause-runs
returns-clause-runs c = run_sound record {
  books = c.books_stay_legal.ensures.legal;
  managers = c.managers_are_right.ensures.step;
  steps = c.steps_stand.ensures;
  shows = c.swaps_show_frames.ensures.recorded;
} c.sends_are_parcels.ensures.split c.managers_are_right.ensures.first c.new_tiles_stand.ensures
