use Rattle.gl_context.proofs.Texels.{has_texels}
use Rattle.gl_context.proofs.laws.commands_have_texels.Goals as goal

pub returns : goal.returns
returns c = has_texels
