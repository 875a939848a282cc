use Rattle.std.proofs.Common.{refl}
use Rattle.rc_base.specs.Contexts.Context.{default_state}
use Rattle.rc_base.specs.Drawing.PixelStep.{cleared}
use Rattle.worked_examples.proofs.fragments.a_clear_goes_by_its_bits.Goals as goal

pub returns : goal.returns
unfolding default_state cleared
returns c = record { color = refl; depth = refl; both = refl; none = refl; masked = refl }
