use Rattle.std.proofs.Common.{sym, ◌∙◌, rules}
use Rattle.fragment_ops.specs.DepthTests.{passes}
use Rattle.fragment_ops.proofs.Few.{kept_is}
use Rattle.fragment_ops.proofs.depth.DepthTest.passes.Goals as goal

pub returns-then-not-self-clause-test : goal.returns-then-not-self-clause-test
unfolding passes
returns-then-not-self-clause-test c = search rules

pub returns-then-not-self-clause-kept : goal.returns-then-not-self-clause-kept
returns-then-not-self-clause-kept c fails s x old p d =
    kept_is s c.args.self.now x c.args.depth c.args.stored old p (sym (returns-then-not-self-clause-test c) ∙ fails) d

pub returns-else-self-4-clause-test : goal.returns-else-self-4-clause-test
unfolding passes
returns-else-self-4-clause-test c = search rules

pub returns-else-self-4-clause-kept : goal.returns-else-self-4-clause-kept
returns-else-self-4-clause-kept c fails s x old p d =
    kept_is s c.args.self.now x c.args.depth c.args.stored old p (sym (returns-else-self-4-clause-test c) ∙ fails) d
