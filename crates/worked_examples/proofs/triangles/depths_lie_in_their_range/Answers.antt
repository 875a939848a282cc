use Rattle.std.proofs.Common.{refl}
use Rattle.rc_base.specs.Drawing.Window.{depth_of}
use Rattle.worked_examples.proofs.triangles.depths_lie_in_their_range.Goals as goal

pub returns : goal.returns
unfolding depth_of
returns c = record { whole = refl; part = refl; reversed = refl; beyond = refl }
