use Rattle.std.proofs.Common.{refl}
use Rattle.rc_base.specs.Contexts.Context.{default_state, default_context}
use Rattle.rc_base.specs.Contexts.Issue.{issued, context_after, effect_of, effect_at}
use Rattle.rc_base.specs.Drawing.Serial.{pixel_step, textures_step, canvas_step, accepted_swaps, frame_pixel}
use Rattle.rc_base.specs.Drawing.PixelStep.{cleared}
use Rattle.worked_examples.proofs.drawing.a_scissored_clear_stays_in_its_box.Goals as goal

pub returns : goal.returns
unfolding default_state default_context issued context_after effect_of effect_at pixel_step textures_step canvas_step accepted_swaps frame_pixel cleared
returns c = record { inside_low = refl; inside_high = refl; left_of_it = refl; below_it = refl }
