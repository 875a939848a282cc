use Rattle.tile_server.proofs.TilesMeetTheirClause.{lanes_clause}
use Rattle.tile_server.proofs.laws.tiles_meet_their_clause_over_lanes.Goals as goal

pub returns : goal.returns
returns g c = lanes_clause c.tiles_meet_their_clause.ensures.step g.I.Inlet.gave g.I.Inlet.same g.J.Inlet.gave g.J.Inlet.same
