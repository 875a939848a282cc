use Rattle.tile_model.proofs.laws.swaps_show_frames.Goals as goal
use Rattle.tile_model.proofs.SwapsShowFrames.{added_shows, recorded_shows}

pub returns-clause-added : goal.returns-clause-added
returns-clause-added c = added_shows c.touched_pixels_lie_in_the_box.ensures.tiles

pub returns-clause-recorded : goal.returns-clause-recorded
returns-clause-recorded c = recorded_shows c.touched_pixels_lie_in_the_box.ensures.tiles
