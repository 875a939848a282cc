use Rattle.std.proofs.Common.{refl}
use Rattle.rc_base.specs.Contexts.Context.{default_state}
use Rattle.worked_examples.proofs.fragments.blending_adds_two_products.Goals as goal

pub returns : goal.returns
unfolding default_state
returns c = record { dst_color = refl; src_color = refl; one_minus_dst_color = refl; dst_alpha = refl; held = refl }
