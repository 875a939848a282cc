use Rattle.std.proofs.Common.{◌∙◌, rules}
use Rattle.fragment_ops.specs.Clearings.{cleared_by}
use Rattle.fragment_ops.proofs.Few.{cleared_is}
use Rattle.fragment_ops.proofs.clear.Clearing.clear.Goals as goal

pub returns-then-self-clause-prepared : goal.returns-then-self-clause-prepared
unfolding cleared_by
returns-then-self-clause-prepared c = search rules

pub returns-then-self-clause-cleared : goal.returns-then-self-clause-cleared
returns-then-self-clause-cleared c s m p = returns-then-self-clause-prepared c ∙ cleared_is s m c.args.self.now c.args.old p

pub returns-else-self-clause-prepared : goal.returns-else-self-clause-prepared
unfolding cleared_by
returns-else-self-clause-prepared c = search rules

pub returns-else-self-clause-cleared : goal.returns-else-self-clause-cleared
returns-else-self-clause-cleared c s m p = returns-else-self-clause-prepared c ∙ cleared_is s m c.args.self.now c.args.old p
