use Rattle.order_model.proofs.laws.full_scenes_are_uncontended.Goals as goal
use Rattle.order_model.proofs.FullScenesAreUncontended.{full_is_uncontended}

pub returns : goal.returns
returns c = full_is_uncontended
