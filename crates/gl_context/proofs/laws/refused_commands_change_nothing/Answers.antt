use Rattle.std.proofs.Common.{refl}
use Rattle.rc_base.specs.Contexts.Issue.{issued, effect_of}
use Rattle.gl_context.proofs.laws.refused_commands_change_nothing.Goals as goal

pub returns : goal.returns
unfolding issued effect_of
returns c = λ x place command f broken. (rw broken refl, rw broken refl)
