use Rattle.std.proofs.Common.{List, sym, subst, arith}
use Rattle.happens_before.specs.Timelines.{AreChanges}
use Rattle.happens_before.specs.declared.timelines.Change.{Change}
use Rattle.cluster_tests.proofs.meetings.raised.Goals as goal

pub raise-requires-clause-timelines : goal.raise-requires-clause-timelines
raise-requires-clause-timelines c =
    let made = c.in_ok-clocks.ensures.timelines in
    record { clients = made.clients; changes = λ client below. (0, made.changes client below) }

pub raise-requires-clause-late : goal.raise-requires-clause-late
raise-requires-clause-late c = subst (λ (xs : List Change). AreChanges 0 xs 3) (sym (c.in_ok-clocks.ensures.empty 1)) (omega arith)
