use Rattle.std.proofs.Common.{refl}
use Rattle.rc_base.specs.Contexts.Context.{default_state}
use Rattle.rc_base.specs.Drawing.PixelStep.{shaded}
use Rattle.worked_examples.proofs.fragments.alpha_is_tested_against_the_reference.Goals as goal

pub returns : goal.returns
unfolding default_state shaded
returns c = record { gequal = refl; fails = refl; off = refl }
