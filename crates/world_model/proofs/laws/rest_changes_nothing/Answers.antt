use Rattle.world_model.proofs.RestChangesNothing.{rest_changes_nothing}
use Rattle.world_model.proofs.laws.rest_changes_nothing.Goals as goal

pub returns : goal.returns
returns c = rest_changes_nothing
