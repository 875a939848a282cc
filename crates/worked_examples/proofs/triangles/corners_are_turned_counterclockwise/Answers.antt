use Rattle.std.proofs.Common.{refl}
use Rattle.rc_base.specs.Drawing.Kept.{oriented}
use Rattle.worked_examples.proofs.triangles.corners_are_turned_counterclockwise.Goals as goal

pub returns : goal.returns
unfolding oriented
returns c = record { area = refl; turned = refl; kept = refl }
