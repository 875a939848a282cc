use Rattle.std.proofs.Common.{refl}
use Rattle.rc_base.specs.Contexts.Context.{default_state}
use Rattle.rc_base.specs.Drawing.PixelStep.{textured}
use Rattle.worked_examples.proofs.fragments.modulate_multiplies_and_replace_replaces.Goals as goal

pub returns : goal.returns
unfolding default_state textured
returns c = record { modulate = refl; replace = refl }
