use Rattle.tile_server.proofs.CoresStand.{done}
use Rattle.tile_server.proofs.laws.finished_cores_are_done.Goals as goal

pub returns : goal.returns
returns c = done
