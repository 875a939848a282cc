use Rattle.std.proofs.Common.{◌∙◌, sym, rules}
use Rattle.fragment_ops.specs.Shortcuts.{writes_plainly}
use Rattle.fragment_ops.proofs.Few.{plain_is}
use Rattle.fragment_ops.proofs.shortcuts.writes_plainly.Goals as goal

pub returns-then-not-state-clause-test : goal.returns-then-not-state-clause-test
unfolding writes_plainly
returns-then-not-state-clause-test c = search rules

pub returns-then-not-state-clause-written : goal.returns-then-not-state-clause-written
returns-then-not-state-clause-written c h color old =
    plain_is c.args.state.now color old (sym (returns-then-not-state-clause-test c) ∙ h)
