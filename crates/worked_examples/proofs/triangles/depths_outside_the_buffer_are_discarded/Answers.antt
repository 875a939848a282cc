use Rattle.std.proofs.Common.{refl}
use Rattle.rc_base.specs.Contexts.Context.{default_state}
use Rattle.rc_base.specs.Drawing.PixelStep.{shaded}
use Rattle.worked_examples.proofs.triangles.depths_outside_the_buffer_are_discarded.Goals as goal

pub returns : goal.returns
unfolding default_state shaded
returns c = record { nearest = refl; farthest = refl; nearer = refl; farther = refl }
