use Rattle.state_update.proofs.Alike.{known_are_alike}
use Rattle.state_update.proofs.laws.known_values_are_alike.Goals as goal

pub returns : goal.returns
returns c = known_are_alike
