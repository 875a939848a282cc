use Rattle.shown_frames.proofs.ShownParts.{shown_parts}
use Rattle.shown_frames.proofs.laws.shown_parts_begin_a_whole_run.Goals as goal

pub returns : goal.returns
returns c = shown_parts record {
  split = c.sends_are_parcels.ensures.split;
  books = c.over_books_are_maximal.ensures.legal;
  swaps = c.swaps_are_few.ensures;
  stay = c.tile_frames_stay.ensures;
  go_on = c.unfinished_runs_go_on.ensures;
}
