use Rattle.race_check.proofs.OneVerdict.{later_not_before}
use Rattle.race_check.proofs.laws.later_names_are_not_before.Goals as goal

pub returns : goal.returns
returns c = later_not_before
