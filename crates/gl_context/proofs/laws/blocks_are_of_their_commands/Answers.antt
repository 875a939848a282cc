use Rattle.gl_context.proofs.BlocksOfCommands.{opened, drawn}
use Rattle.gl_context.proofs.laws.blocks_are_of_their_commands.Goals as goal

pub returns-clause-opened : goal.returns-clause-opened
returns-clause-opened c = opened

pub returns-clause-drawn : goal.returns-clause-drawn
returns-clause-drawn c = drawn
