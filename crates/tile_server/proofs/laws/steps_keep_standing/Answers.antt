use Rattle.tile_server.proofs.CoresStand.{keeps_standing}
use Rattle.tile_server.proofs.laws.steps_keep_standing.Goals as goal

pub returns : goal.returns
returns c = keeps_standing c.steps_stand.ensures
