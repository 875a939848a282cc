use Rattle.show_fronts.proofs.FrontRecords.{default_journals_stay}
use Rattle.show_fronts.proofs.laws.default_journals_stay.Goals as goal

pub returns : goal.returns
returns c = default_journals_stay
