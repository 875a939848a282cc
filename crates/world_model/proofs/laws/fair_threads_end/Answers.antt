use Rattle.world_model.specs.ThreadedFair.{ThreadedTurnsLeaveLess, ThreadedTurnsLeaveNoMore, FairLooseSchedulesEnd}
use Rattle.world_model.proofs.FairThreadsEnd.{threads_are_loose, fair_loose_end, fair_loose_runs_end, new_threads_move_seldom}
use Rattle.world_model.proofs.LooseTurnsMoveSomebody.{loose_turns_move}
use Rattle.world_model.proofs.ThreadsLeaveLess.{threads_leave_less, threads_leave_no_more, new_threads_little}
use Rattle.world_model.proofs.laws.fair_threads_end.Goals as goal

pub returns-clause-less : goal.returns-clause-less
returns-clause-less c = threads_leave_less c.turns_leave_less.ensures.less

pub returns-clause-no_more : goal.returns-clause-no_more
returns-clause-no_more c = threads_leave_no_more c.turns_leave_less.ensures.no_more (threads_leave_less c.turns_leave_less.ensures.less)

pub returns-clause-little : goal.returns-clause-little
returns-clause-little c = new_threads_little c.turns_leave_less.ensures.first

pub returns-clause-one_moment : goal.returns-clause-one_moment
returns-clause-one_moment c = threads_are_loose

pub returns-clause-some : goal.returns-clause-some
returns-clause-some c = loose_turns_move c.entries_have_clients.ensures.members

pub returns-clause-ends : goal.returns-clause-ends
returns-clause-ends c =
    let less : ThreadedTurnsLeaveLess = threads_leave_less c.turns_leave_less.ensures.less in
    fair_loose_end c.threads_move_somebody.ensures.next less (threads_leave_no_more c.turns_leave_less.ensures.no_more less) (loose_turns_move c.entries_have_clients.ensures.members)

pub returns-clause-runs : goal.returns-clause-runs
returns-clause-runs c =
    let less : ThreadedTurnsLeaveLess = threads_leave_less c.turns_leave_less.ensures.less in
    let ends : FairLooseSchedulesEnd =
    fair_loose_end c.threads_move_somebody.ensures.next less (threads_leave_no_more c.turns_leave_less.ensures.no_more less) (loose_turns_move c.entries_have_clients.ensures.members) in
    fair_loose_runs_end c.scenes_within_limits.ensures.drawable c.scenes_within_limits.ensures.runnable c.threads_move_somebody.ensures.pixels c.threads_move_somebody.ensures.first
    ends

pub returns-clause-seldom : goal.returns-clause-seldom
returns-clause-seldom c =
    let less : ThreadedTurnsLeaveLess = threads_leave_less c.turns_leave_less.ensures.less in
    let more : ThreadedTurnsLeaveNoMore = threads_leave_no_more c.turns_leave_less.ensures.no_more less in
    new_threads_move_seldom c.scenes_within_limits.ensures.drawable c.scenes_within_limits.ensures.runnable c.threads_move_somebody.ensures.pixels c.threads_move_somebody.ensures.first
    (new_threads_little c.turns_leave_less.ensures.first) c.threads_move_somebody.ensures.next less more
