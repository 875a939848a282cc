use Rattle.sync_manager.proofs.FrontsArrive.{fronts_arrive}
use Rattle.sync_manager.proofs.laws.fronts_arrive.Goals as goal

pub returns : goal.returns
returns c = fronts_arrive
