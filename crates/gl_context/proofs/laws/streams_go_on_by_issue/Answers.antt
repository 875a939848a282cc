use Rattle.gl_context.proofs.OneMoreCommand.{begins, goes_on}
use Rattle.gl_context.proofs.ImagesGoOn.{at_most}
use Rattle.gl_context.proofs.laws.streams_go_on_by_issue.Goals as goal

pub returns-clause-first : goal.returns-clause-first
returns-clause-first c = begins

pub returns-clause-next : goal.returns-clause-next
returns-clause-next c = goes_on

pub returns-clause-edits : goal.returns-clause-edits
returns-clause-edits c = at_most
