use Rattle.std.proofs.Common.{◌∙◌, List, sym, subst}
use Rattle.rc_base.specs.Orders.Journal.{IsLegal}
use Rattle.rc_base.specs.declared.sync.Entry.{Entry}
use Rattle.cluster_tests.proofs.meetings.before.Goals as goal

pub turns_of-requires : goal.turns_of-requires
turns_of-requires c = c.in_ok-syncs.ensures.turns

pub clocks_of-requires-clause-lists : goal.clocks_of-requires-clause-lists
clocks_of-requires-clause-lists c = c.in_ok-syncs.ensures.turns.well

pub clocks_of-requires-clause-clients : goal.clocks_of-requires-clause-clients
clocks_of-requires-clause-clients c = c.in_ok-syncs.ensures.turns.clients

pub clocks_of-requires-clause-legal : goal.clocks_of-requires-clause-legal
clocks_of-requires-clause-legal c =
    let syncs = c.in_ok-syncs.syncs in
    subst (λ (j : List Entry). IsLegal syncs j) (sym (c.as_slice.ensures ∙ c.in_ok-journal.ensures.journal))
    (c.default_journal_is_maximal.ensures syncs c.in_ok-syncs.ensures.turns.well).0
