use Rattle.step_core.proofs.Gathered.{can_collect, is_gathered}
use Rattle.step_core.proofs.gather.gather.Goals as goal

pub parts_in_frames-requires : goal.parts_in_frames-requires
parts_in_frames-requires c = can_collect record {
  runs = c.schedules_keep_worlds_sound.ensures.runs;
  over = c.ended_worlds_are_over.ensures;
  frames = c.ended_worlds_are_whole.ensures.frames;
  tallies = c.ended_worlds_are_whole.ensures.tallies;
  recorded = c.done_runs_are_recorded.ensures;
  ordered = c.frames_are_in_order.ensures;
  stay = c.swapped_frames_stay.ensures;
} c.args.decl.now c.args.cluster c.requires

pub returns : goal.returns
returns c = is_gathered record {
  runs = c.schedules_keep_worlds_sound.ensures.runs;
  over = c.ended_worlds_are_over.ensures;
  frames = c.ended_worlds_are_whole.ensures.frames;
  tallies = c.ended_worlds_are_whole.ensures.tallies;
  recorded = c.done_runs_are_recorded.ensures;
  ordered = c.frames_are_in_order.ensures;
  stay = c.swapped_frames_stay.ensures;
} c.args.decl.now c.args.cluster _ c.in_ok-kept.ensures c.in_ok-parts.ensures
