use Rattle.tile_server.proofs.TilesMeetTheirClause.{frames_stay}
use Rattle.tile_server.proofs.laws.tile_frames_stay.Goals as goal

pub returns : goal.returns
returns c = frames_stay c.swapped_frames_stay.ensures
