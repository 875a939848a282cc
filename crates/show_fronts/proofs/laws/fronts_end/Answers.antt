use Rattle.show_fronts.proofs.FrontRecords.{fronts_end}
use Rattle.show_fronts.proofs.laws.fronts_end.Goals as goal

pub returns : goal.returns
returns c = fronts_end
