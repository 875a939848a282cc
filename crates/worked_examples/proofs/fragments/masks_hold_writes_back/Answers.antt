use Rattle.std.proofs.Common.{refl}
use Rattle.rc_base.specs.Contexts.Context.{default_state}
use Rattle.rc_base.specs.Drawing.PixelStep.{shaded}
use Rattle.worked_examples.proofs.fragments.masks_hold_writes_back.Goals as goal

pub returns : goal.returns
unfolding default_state shaded
returns c = record { color = refl; depth = refl; no_depth = refl; no_test = refl; fails = refl }
