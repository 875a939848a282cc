use Rattle.tile_model.proofs.laws.parcels_are_givable.Goals as goal
use Rattle.tile_model.proofs.LimitsGiveSides.{limits_give_sides}
use Rattle.tile_model.proofs.ParcelsAreGivable.{parcels_givable}
use Rattle.tile_model.proofs.ParcelsAreJobs.{parcels_few}

pub returns-clause-each : goal.returns-clause-each
returns-clause-each c = parcels_givable

pub returns-clause-sides : goal.returns-clause-sides
returns-clause-sides c = limits_give_sides

pub returns-clause-few : goal.returns-clause-few
returns-clause-few c = parcels_few
