use Rattle.race_check.proofs.VerdictsOnScenes.{told_races_real}
use Rattle.race_check.proofs.laws.told_races_are_real.Goals as goal

pub returns : goal.returns
returns c = told_races_real
