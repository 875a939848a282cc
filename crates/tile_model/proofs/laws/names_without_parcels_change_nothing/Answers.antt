use Rattle.tile_model.proofs.laws.names_without_parcels_change_nothing.Goals as goal
use Rattle.tile_model.proofs.IdleNamesChangeNothing.{names_change_nothing}

pub returns : goal.returns
returns c = names_change_nothing c.touched_pixels_lie_in_the_box.ensures.tiles
