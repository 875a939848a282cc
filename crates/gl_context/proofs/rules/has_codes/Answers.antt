-- The table has the count of codes at the variant that was found.
use Rattle.std.proofs.Common.{sym, ap, ◌∙◌}
use Rattle.rc_base.specs.Formats.Commands.{has_codes}
use Rattle.gl_context.proofs.rules.has_codes.Goals as goal

pub returns-in-Begin : goal.returns-in-Begin
returns-in-Begin c = c.is_code.ensures ∙ sym (ap has_codes c.in-Begin.is)

pub returns-in-Enable : goal.returns-in-Enable
returns-in-Enable c = c.is_capability.ensures ∙ sym (ap has_codes c.in-Enable.is)

pub returns-in-Disable : goal.returns-in-Disable
returns-in-Disable c = c.is_capability-in-Disable.ensures ∙ sym (ap has_codes c.in-Disable.is)

pub returns-in-MatrixMode : goal.returns-in-MatrixMode
returns-in-MatrixMode c = c.is_code-in-MatrixMode.ensures ∙ sym (ap has_codes c.in-MatrixMode.is)

pub returns-in-AlphaFunc : goal.returns-in-AlphaFunc
returns-in-AlphaFunc c = c.is_code-in-AlphaFunc.ensures ∙ sym (ap has_codes c.in-AlphaFunc.is)

pub returns-in-DepthFunc : goal.returns-in-DepthFunc
returns-in-DepthFunc c = c.is_code-in-DepthFunc.ensures ∙ sym (ap has_codes c.in-DepthFunc.is)

pub returns-in-BlendFunc : goal.returns-in-BlendFunc
returns-in-BlendFunc c = c.are_codes.ensures ∙ sym (ap has_codes c.in-BlendFunc.is)

pub returns-in-CullFace : goal.returns-in-CullFace
returns-in-CullFace c = c.is_code-in-CullFace.ensures ∙ sym (ap has_codes c.in-CullFace.is)

pub returns-in-FrontFace : goal.returns-in-FrontFace
returns-in-FrontFace c = c.is_code-in-FrontFace.ensures ∙ sym (ap has_codes c.in-FrontFace.is)

pub returns-in-BindTexture : goal.returns-in-BindTexture
returns-in-BindTexture c = c.is_code-in-BindTexture.ensures ∙ sym (ap has_codes c.in-BindTexture.is)

pub returns-in-TexEnv : goal.returns-in-TexEnv
returns-in-TexEnv c = c.is_code-in-TexEnv.ensures ∙ sym (ap has_codes c.in-TexEnv.is)

pub returns-in-TexWrap : goal.returns-in-TexWrap
returns-in-TexWrap c = c.are_codes-in-TexWrap.ensures ∙ sym (ap has_codes c.in-TexWrap.is)
