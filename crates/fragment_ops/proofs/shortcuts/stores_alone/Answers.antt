use Rattle.std.proofs.Common.{◌∙◌, sym, rules}
use Rattle.fragment_ops.specs.Shortcuts.{stores_alone}
use Rattle.fragment_ops.proofs.Few.{alone_is}
use Rattle.fragment_ops.proofs.shortcuts.stores_alone.Goals as goal

pub returns-then-not-state-2-clause-test : goal.returns-then-not-state-2-clause-test
unfolding stores_alone
returns-then-not-state-2-clause-test c = search rules

pub returns-then-not-state-2-clause-stored : goal.returns-then-not-state-2-clause-stored
returns-then-not-state-2-clause-stored c h color depth old =
    alone_is c.args.state.now color depth old (sym (returns-then-not-state-2-clause-test c) ∙ h)
