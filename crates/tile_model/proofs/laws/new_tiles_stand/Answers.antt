use Rattle.tile_model.proofs.laws.new_tiles_stand.Goals as goal
use Rattle.tile_model.proofs.NewTilesStand.{new_stands}

pub returns : goal.returns
returns c = new_stands
