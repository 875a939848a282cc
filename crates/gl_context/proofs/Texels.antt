-- Commands within their ranges have all texels.
use Rattle.rc_base.specs.Formats.Commands.{IsCommand}
use Rattle.rc_base.specs.declared.command.Command.{Command}
use Rattle.rc_base.specs.declared.command.Command.TheVariants as cmd
use Rattle.gl_context.specs.Arguments.{HasTexels}

pub has_texels : (c : Command) → IsCommand c → HasTexels c
has_texels (cmd.TexImage name w h bytes) i = i.1.0.2
has_texels (cmd.TexPart part) i = i.1.1.1.0.2
has_texels c i = tt
