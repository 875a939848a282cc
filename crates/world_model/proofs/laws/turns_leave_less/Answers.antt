use Rattle.world_model.proofs.NewWorldsFlow.{new_flows}
use Rattle.world_model.proofs.RestingRounds.{rest_still}
use Rattle.world_model.proofs.TurnsKeepFlowing.{turn_flows}
use Rattle.world_model.proofs.TurnsLeaveLess.{turns_leave_less}
use Rattle.world_model.proofs.WorkIsBounded.{little_to_do, no_more, rounds_leave_less, runs_little}
use Rattle.world_model.proofs.laws.turns_leave_less.Goals as goal

pub returns-clause-less : goal.returns-clause-less
returns-clause-less c = turns_leave_less c.books_stay_legal.ensures.legal c.managers_are_right.ensures.step

pub returns-clause-no_more : goal.returns-clause-no_more
returns-clause-no_more c = no_more rest_still (turns_leave_less c.books_stay_legal.ensures.legal c.managers_are_right.ensures.step)

pub returns-clause-all : goal.returns-clause-all
returns-clause-all c =
    let less = turns_leave_less c.books_stay_legal.ensures.legal c.managers_are_right.ensures.step in
    rounds_leave_less (turn_flows c.books_stay_legal.ensures.legal c.managers_are_right.ensures.step) less (no_more rest_still less)

pub returns-clause-first : goal.returns-clause-first
returns-clause-first c = little_to_do

pub returns-clause-runs : goal.returns-clause-runs
returns-clause-runs c =
    let less = turns_leave_less c.books_stay_legal.ensures.legal c.managers_are_right.ensures.step in
    runs_little (new_flows c.sends_are_parcels.ensures.split c.sends_are_parcels.ensures.ends c.managers_are_right.ensures.first)
    (turn_flows c.books_stay_legal.ensures.legal c.managers_are_right.ensures.step) less (no_more rest_still less)
