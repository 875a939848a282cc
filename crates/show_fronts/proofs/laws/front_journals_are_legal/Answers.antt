use Rattle.show_fronts.proofs.FrontRecords.{front_journals_are_legal}
use Rattle.show_fronts.proofs.laws.front_journals_are_legal.Goals as goal

pub returns : goal.returns
returns c = front_journals_are_legal
