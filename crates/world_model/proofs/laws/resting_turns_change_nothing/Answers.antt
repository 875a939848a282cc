use Rattle.world_model.proofs.RestingRounds.{rest_still}
use Rattle.world_model.proofs.laws.resting_turns_change_nothing.Goals as goal

pub returns : goal.returns
returns c = rest_still
