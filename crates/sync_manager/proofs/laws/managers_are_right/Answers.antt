use Rattle.sync_manager.proofs.RightManagers.{new_right, step_right, finishes}
use Rattle.sync_manager.proofs.laws.managers_are_right.Goals as goal

pub returns-clause-first : goal.returns-clause-first
returns-clause-first c = new_right

pub returns-clause-step : goal.returns-clause-step
returns-clause-step c = step_right

pub returns-clause-done : goal.returns-clause-done
returns-clause-done c = λ syncs tiles d deed done next. finishes syncs tiles d done deed next
