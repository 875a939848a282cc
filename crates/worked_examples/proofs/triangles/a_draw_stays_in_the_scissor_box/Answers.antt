use Rattle.std.proofs.Common.{refl}
use Rattle.rc_base.specs.Contexts.Context.{default_state}
use Rattle.rc_base.specs.Drawing.Cover.{is_within_edge, is_inside, covers}
use Rattle.worked_examples.proofs.triangles.a_draw_stays_in_the_scissor_box.Goals as goal

pub returns : goal.returns
unfolding default_state is_within_edge is_inside covers
returns c = record { inside = refl; left_of_it = refl; off = refl }
