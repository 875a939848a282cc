use Rattle.std.proofs.Common.{refl}
use Rattle.rc_base.specs.Contexts.Context.{default_state}
use Rattle.rc_base.specs.Drawing.Window.{axis_of}
use Rattle.rc_base.specs.Drawing.Cover.{is_within_edge, is_inside, covers}
use Rattle.worked_examples.proofs.triangles.a_viewport_moves_and_clips.Goals as goal

pub returns : goal.returns
unfolding default_state axis_of is_within_edge is_inside covers
returns c = record { places = refl; inside = refl; right_of_it = refl; whole_window = refl }
