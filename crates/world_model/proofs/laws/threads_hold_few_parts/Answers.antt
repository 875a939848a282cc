use Rattle.world_model.proofs.FewPartsAreHeld.{hold_little, none_runs_ahead, few_of_each, few_are_held}
use Rattle.world_model.proofs.laws.threads_hold_few_parts.Goals as goal

pub returns-clause-count : goal.returns-clause-count
returns-clause-count c = hold_little c.threads_move_somebody.ensures.pixels c.threads_move_somebody.ensures.first c.threads_move_somebody.ensures.next c.threads_move_somebody.ensures.all

pub returns-clause-ahead : goal.returns-clause-ahead
returns-clause-ahead c = none_runs_ahead c.threads_move_somebody.ensures.pixels c.threads_move_somebody.ensures.first c.threads_move_somebody.ensures.next c.threads_move_somebody.ensures.all

pub returns-clause-each : goal.returns-clause-each
returns-clause-each c = few_of_each c.threads_move_somebody.ensures.pixels c.threads_move_somebody.ensures.first c.threads_move_somebody.ensures.next c.threads_move_somebody.ensures.all

pub returns-clause-all : goal.returns-clause-all
returns-clause-all c = few_are_held c.threads_move_somebody.ensures.pixels c.threads_move_somebody.ensures.first c.threads_move_somebody.ensures.next c.threads_move_somebody.ensures.all
