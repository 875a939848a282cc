use Rattle.std.proofs.Common.{◌∙◌, List, ℤ, sym, ap}
use Rattle.rc_base.specs.Intervals.{transformed_over}
use Rattle.bounds_bucket.proofs.Unmoved.{unmoved, wider_ends}
use Rattle.bounds_bucket.proofs.reach.transform_over.Goals as goal

pub returns-then-is_identity-clause-value : goal.returns-then-is_identity-clause-value
returns-then-is_identity-clause-value c =
    unmoved c.args.b.now c.requires.ordered ∙ ap (λ (m : List ℤ). transformed_over m c.args.b.now) (sym (c.is_identity.ensures.identity.0 c.if-is_identity.true))

pub returns-then-is_identity-clause-small : goal.returns-then-is_identity-clause-small
returns-then-is_identity-clause-small c = λ n h. wider_ends c.args.b.now n h
