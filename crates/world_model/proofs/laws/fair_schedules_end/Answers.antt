use Rattle.world_model.proofs.FairSchedulesEnd.{fair_runs_end, fair_schedules_end, few_turns_move, new_runs_move_seldom}
use Rattle.world_model.proofs.RoundsMoveSomebody.{fair_turns_move}
use Rattle.world_model.proofs.laws.fair_schedules_end.Goals as goal

pub returns-clause-some : goal.returns-clause-some
returns-clause-some c = fair_turns_move c.entries_have_clients.ensures.members

pub returns-clause-ends : goal.returns-clause-ends
returns-clause-ends c = fair_schedules_end (fair_turns_move c.entries_have_clients.ensures.members) c.turns_keep_worlds_flowing.ensures.all c.turns_leave_less.ensures.all

pub returns-clause-runs : goal.returns-clause-runs
returns-clause-runs c =
    fair_runs_end c.turns_keep_worlds_flowing.ensures.first
    (fair_schedules_end (fair_turns_move c.entries_have_clients.ensures.members) c.turns_keep_worlds_flowing.ensures.all c.turns_leave_less.ensures.all)

pub returns-clause-few : goal.returns-clause-few
returns-clause-few c = few_turns_move c.turns_keep_worlds_flowing.ensures.next c.turns_leave_less.ensures.less c.turns_leave_less.ensures.no_more

pub returns-clause-seldom : goal.returns-clause-seldom
returns-clause-seldom c =
    new_runs_move_seldom c.turns_keep_worlds_flowing.ensures.first c.turns_leave_less.ensures.first
    (few_turns_move c.turns_keep_worlds_flowing.ensures.next c.turns_leave_less.ensures.less c.turns_leave_less.ensures.no_more)
