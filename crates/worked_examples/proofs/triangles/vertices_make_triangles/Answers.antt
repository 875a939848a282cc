use Rattle.std.proofs.Common.{refl}
use Rattle.rc_base.specs.Drawing.Triangles.{triangles_of}
use Rattle.worked_examples.proofs.triangles.vertices_make_triangles.Goals as goal

pub returns : goal.returns
unfolding triangles_of
returns c = record { triangles = refl; strip = refl; fan = refl; fan_of_two = refl }
