use Rattle.std.proofs.Common.{ap, ◌∙◌}
use Rattle.fragment_ops.specs.declared.depth.DepthTest.{DepthTest}
use Rattle.fragment_ops.proofs.Outcomes.{all_is}
use Rattle.fragment_ops.proofs.depth.depth_test_of.Goals as goal

pub returns-then-not-state : goal.returns-then-not-state
returns-then-not-state c = record {
  passes = λ a b. rw (c.outcomes.ensures, c.if-not-state.true) (all_is _ a b);
  stores = ap (λ (t : DepthTest). t.stores) c.outcomes.ensures ∙ c.both-stores.ensures;
}

pub returns : goal.returns
returns c = record {
  passes = λ a b. rw c.if-not-state.false (c.outcomes_of.ensures.passes a b);
  stores = c.outcomes_of.ensures.stores ∙ c.both-stores.ensures;
}
