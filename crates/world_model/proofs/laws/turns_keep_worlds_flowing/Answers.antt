use Rattle.world_model.proofs.MovesAreTurns.{moves_are_turns, rounds_flow, runs_flow}
use Rattle.world_model.proofs.NewWorldsFlow.{new_flows}
use Rattle.world_model.proofs.TurnsKeepFlowing.{turn_flows}
use Rattle.world_model.proofs.laws.turns_keep_worlds_flowing.Goals as goal

pub returns-clause-first : goal.returns-clause-first
returns-clause-first c = new_flows c.sends_are_parcels.ensures.split c.sends_are_parcels.ensures.ends c.managers_are_right.ensures.first

pub returns-clause-next : goal.returns-clause-next
returns-clause-next c = turn_flows c.books_stay_legal.ensures.legal c.managers_are_right.ensures.step

pub returns-clause-all : goal.returns-clause-all
returns-clause-all c = rounds_flow (turn_flows c.books_stay_legal.ensures.legal c.managers_are_right.ensures.step)

pub returns-clause-moves : goal.returns-clause-moves
returns-clause-moves c = moves_are_turns

pub returns-clause-runs : goal.returns-clause-runs
returns-clause-runs c = runs_flow
    (new_flows c.sends_are_parcels.ensures.split c.sends_are_parcels.ensures.ends c.managers_are_right.ensures.first)
    (turn_flows c.books_stay_legal.ensures.legal c.managers_are_right.ensures.step)
