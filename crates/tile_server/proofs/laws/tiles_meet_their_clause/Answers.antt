use Rattle.tile_server.proofs.TilesMeetTheirClause.{new_clause, step_clause, ended_done}
use Rattle.tile_server.proofs.laws.tiles_meet_their_clause.Goals as goal

pub returns-clause-first : goal.returns-clause-first
returns-clause-first c = new_clause c.new_cores_stand.ensures

pub returns-clause-step : goal.returns-clause-step
returns-clause-step c = step_clause c.steps_keep_standing.ensures c.swaps_show_frames.ensures.added c.swapped_frames_stay.ensures

pub returns-clause-ended : goal.returns-clause-ended
returns-clause-ended c = ended_done
