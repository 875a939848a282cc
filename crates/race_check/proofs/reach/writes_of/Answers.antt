use Rattle.race_check.proofs.Reaches.{none_written}
use Rattle.race_check.proofs.reach.writes_of.Goals as goal

pub returns-in_default-clause-all : goal.returns-in_default-clause-all
returns-in_default-clause-all c t k = absurd (none_written c.args.effect.now c.in_default.not-Shared t k)
