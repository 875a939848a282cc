use Rattle.std.proofs.Common.{refl}
use Rattle.rc_base.specs.Contexts.Context.{default_state}
use Rattle.rc_base.specs.Drawing.Kept.{is_shown}
use Rattle.worked_examples.proofs.triangles.a_facing_is_culled.Goals as goal

pub returns : goal.returns
unfolding default_state is_shown
returns c = record { back = refl; front = refl; both = refl; clockwise_front = refl; off = refl }
