use Rattle.shown_frames.proofs.TilesShow.{new_tiles, tiles_go_on}
use Rattle.shown_frames.proofs.laws.tiles_go_on_showing.Goals as goal

pub returns-clause-first : goal.returns-clause-first
returns-clause-first c = new_tiles

pub returns-clause-step : goal.returns-clause-step
returns-clause-step c = tiles_go_on c.tiles_meet_their_clause.ensures.step
