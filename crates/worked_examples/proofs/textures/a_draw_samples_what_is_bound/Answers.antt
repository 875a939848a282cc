use Rattle.std.proofs.Common.{refl}
use Rattle.rc_base.specs.Contexts.Context.{default_state}
use Rattle.worked_examples.proofs.textures.a_draw_samples_what_is_bound.Goals as goal

pub returns : goal.returns
unfolding default_state
returns c = record { private = refl; shared = refl; no_image = refl; off = refl }
