use Rattle.tile_model.proofs.laws.steps_stand.Goals as goal
use Rattle.tile_model.proofs.ParcelsAreGivable.{parcels_givable}
use Rattle.tile_model.proofs.StepsStand.{stands_after}

pub returns : goal.returns
returns c scene l tile journal item p before now range sides =
    stands_after c.touched_pixels_lie_in_the_box.ensures.tiles scene l tile journal item p before now range
    (λ m client at count parcel is. parcels_givable scene m client at count parcel range sides is)
