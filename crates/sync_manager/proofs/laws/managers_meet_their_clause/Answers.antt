use Rattle.sync_manager.proofs.ManagersMeetTheirClause.{new_clause, step_clause, ended_done}
use Rattle.sync_manager.proofs.laws.managers_meet_their_clause.Goals as goal

pub returns-clause-first : goal.returns-clause-first
returns-clause-first c = new_clause

pub returns-clause-step : goal.returns-clause-step
returns-clause-step c = step_clause

pub returns-clause-ended : goal.returns-clause-ended
returns-clause-ended c = ended_done
