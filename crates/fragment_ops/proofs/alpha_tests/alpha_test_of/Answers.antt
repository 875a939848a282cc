use Rattle.fragment_ops.proofs.Outcomes.{all_is}
use Rattle.fragment_ops.proofs.alpha_tests.alpha_test_of.Goals as goal

pub returns-then-not-state : goal.returns-then-not-state
returns-then-not-state c alpha = rw (c.outcomes.ensures, c.if-not-state.true) (all_is _ alpha _)

pub returns : goal.returns
returns c alpha = rw c.if-not-state.false (c.outcomes_of.ensures.passes alpha _)
