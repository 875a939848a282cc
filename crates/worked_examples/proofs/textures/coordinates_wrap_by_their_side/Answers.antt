use Rattle.std.proofs.Common.{refl}
use Rattle.rc_base.specs.Drawing.Texel.{texel_of}
use Rattle.worked_examples.proofs.textures.coordinates_wrap_by_their_side.Goals as goal

pub returns : goal.returns
unfolding texel_of
returns c = record { half = refl; repeat = refl; clamp = refl; each_side = refl }
