use Rattle.tile_server.proofs.TilesMeetTheirClause.{view_clause}
use Rattle.tile_server.proofs.laws.same_views_meet_the_clause.Goals as goal

pub returns : goal.returns
returns c = view_clause
