use Rattle.tile_server.proofs.CoresStand.{new_stands}
use Rattle.tile_server.proofs.laws.new_cores_stand.Goals as goal

pub returns : goal.returns
returns c = new_stands c.new_tiles_stand.ensures
