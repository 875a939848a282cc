use Rattle.gl_context.proofs.PushAndPop.{pop_undoes_push}
use Rattle.gl_context.proofs.laws.pop_undoes_push.Goals as goal

pub returns : goal.returns
returns c = pop_undoes_push
