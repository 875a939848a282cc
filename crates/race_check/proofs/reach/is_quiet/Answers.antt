use Rattle.race_check.proofs.Reaches.{quiet_reach}
use Rattle.race_check.proofs.reach.is_quiet.Goals as goal

pub returns-in_default : goal.returns-in_default
returns-in_default c e = quiet_reach c.args.effect.now c.in_default.not-Block c.in_default.not-Clear c.in_default.not-Shared
