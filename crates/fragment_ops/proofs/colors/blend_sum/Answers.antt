use Rattle.std.proofs.Common.{◌∙◌, rules}
use Rattle.fragment_ops.specs.Shortcuts.{color_sum}
use Rattle.fragment_ops.proofs.Few.{sum_is}
use Rattle.fragment_ops.proofs.colors.blend_sum.Goals as goal

pub returns-clause-value : goal.returns-clause-value
unfolding color_sum
returns-clause-value c = search rules

pub returns-clause-written : goal.returns-clause-written
returns-clause-written c s h = returns-clause-value c ∙ sum_is s c.args.color c.args.old h
