use Rattle.gl_context.proofs.ValidContexts.{valid}
use Rattle.gl_context.proofs.laws.contexts_of_streams_are_valid.Goals as goal

pub returns : goal.returns
returns c = valid
