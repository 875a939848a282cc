use Rattle.world_model.proofs.RunsGoOn.{runs_go_on}
use Rattle.world_model.proofs.laws.runs_go_on.Goals as goal

pub returns : goal.returns
returns c = runs_go_on
