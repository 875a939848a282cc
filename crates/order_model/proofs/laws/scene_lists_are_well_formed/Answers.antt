use Rattle.order_model.proofs.laws.scene_lists_are_well_formed.Goals as goal
use Rattle.order_model.proofs.SceneListsAreWellFormed.{scene_lists_well_formed}

pub returns : goal.returns
returns c = scene_lists_well_formed
