use Rattle.std.proofs.Common.{◌+◌, rules, ◌∙◌}
use Rattle.fragment_ops.specs.Shortcuts.{color_over, laid_over}
use Rattle.fragment_ops.proofs.Few.{over_is}
use Rattle.fragment_ops.proofs.Halves.{over_byte, pair_over}
use Rattle.fragment_ops.proofs.colors.blend_over.Goals as goal

pub returns-clause-value : goal.returns-clause-value
unfolding color_over
returns-clause-value c =
    let x = c.args.color in
    let old = c.args.old in
    c.unpaired.ensures (laid_over x.r old.r x.a) (laid_over x.g old.g x.a) (laid_over x.b old.b x.a) (laid_over x.a old.a x.a)
    (over_byte x.r old.r x.a) (over_byte x.g old.g x.a)
    ((λ i. c.scaled.ensures i + c.scaled-2.ensures i) ∙ pair_over x.r x.b old.r old.b x.a (search rules) (search rules) (search rules) (search rules) (search rules))
    ((λ i. c.scaled-3.ensures i + c.scaled-4.ensures i) ∙ pair_over x.g x.a old.g old.a x.a (search rules) (search rules) (search rules) (search rules) (search rules))

pub returns-clause-written : goal.returns-clause-written
returns-clause-written c s h = returns-clause-value c ∙ over_is s c.args.color c.args.old h
