use Rattle.gl_context.proofs.OneElement.{sets_one, keeps_last_set, begins_with_defaults}
use Rattle.gl_context.proofs.laws.commands_set_one_element.Goals as goal

pub returns-clause-one : goal.returns-clause-one
returns-clause-one c = sets_one

pub returns-clause-kept : goal.returns-clause-kept
returns-clause-kept c = keeps_last_set

pub returns-clause-first : goal.returns-clause-first
returns-clause-first c = begins_with_defaults
