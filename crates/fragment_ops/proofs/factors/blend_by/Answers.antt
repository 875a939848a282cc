use Rattle.std.proofs.Common.{◌∙◌, rules}
use Rattle.fragment_ops.specs.Blends.{color_blended}
use Rattle.fragment_ops.proofs.ByFactors.{blended_is}
use Rattle.fragment_ops.proofs.factors.blend_by.Goals as goal

pub returns-clause-value : goal.returns-clause-value
unfolding color_blended
returns-clause-value c = search rules

pub returns-clause-mixed : goal.returns-clause-mixed
returns-clause-mixed c s b =
    returns-clause-value c ∙ blended_is s c.args.source c.args.stored c.args.color c.args.old b
