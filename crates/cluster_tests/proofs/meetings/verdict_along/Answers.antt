use Rattle.std.proofs.Common.{List, sym, subst}
use Rattle.rc_base.specs.Orders.Journal.{IsMaximal}
use Rattle.rc_base.specs.declared.sync.Entry.{Entry}
use Rattle.cluster_tests.proofs.meetings.verdict_along.Goals as goal

pub turns_of-requires : goal.turns_of-requires
turns_of-requires c = c.in_ok-syncs.ensures.turns

pub is_permitted-requires-clause-clients : goal.is_permitted-requires-clause-clients
is_permitted-requires-clause-clients c = c.in_ok-syncs.ensures.turns.clients

pub is_permitted-requires-clause-lists : goal.is_permitted-requires-clause-lists
is_permitted-requires-clause-lists c = c.in_ok-syncs.ensures.turns.well

pub check_races-requires-clause-maximal : goal.check_races-requires-clause-maximal
check_races-requires-clause-maximal c =
    let syncs = c.in_ok-syncs.syncs in
    subst (λ (j : List Entry). IsMaximal syncs j) (sym c.in_ok-journal.ensures.journal) (c.default_journal_is_maximal.ensures syncs c.in_ok-syncs.ensures.turns.well)
