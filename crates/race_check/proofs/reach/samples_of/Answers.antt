use Rattle.race_check.proofs.Reaches.{none_sampled}
use Rattle.race_check.proofs.reach.samples_of.Goals as goal

pub returns-in_default-clause-all : goal.returns-in_default-clause-all
returns-in_default-clause-all c t k = absurd (none_sampled c.args.state.now c.args.effect.now c.in_default.not-Block t k)
