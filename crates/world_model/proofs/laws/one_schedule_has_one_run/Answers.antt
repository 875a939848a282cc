use Rattle.world_model.proofs.OneScheduleHasOneRun.{one_schedule}
use Rattle.world_model.proofs.laws.one_schedule_has_one_run.Goals as goal

pub returns : goal.returns
returns c = one_schedule record {
  lawful = c.grants_are_exact.ensures.lawful;
} record {
  books = c.books_stay_legal.ensures.legal;
  managers = c.managers_are_right.ensures.step;
  steps = c.steps_stand.ensures;
  shows = c.swaps_show_frames.ensures.recorded;
} c.sends_are_parcels.ensures.split c.managers_are_right.ensures.first c.new_tiles_stand.ensures
