use Rattle.call_lists.proofs.CommandsRefused.{refused_left_out}
use Rattle.call_lists.proofs.laws.refused_commands_are_left_out.Goals as goal

pub returns : goal.returns
returns c = refused_left_out
