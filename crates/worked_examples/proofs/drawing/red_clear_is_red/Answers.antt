use Rattle.std.proofs.Common.{refl}
use Rattle.rc_base.specs.Contexts.Context.{default_state, default_context}
use Rattle.rc_base.specs.Contexts.Issue.{issued, context_after, effect_of, effect_at}
use Rattle.rc_base.specs.Drawing.Serial.{pixel_step, textures_step, canvas_step, accepted_swaps, frame_pixel}
use Rattle.rc_base.specs.Drawing.PixelStep.{cleared}
use Rattle.rc_base.specs.Drawing.Images.{row_bytes, rgb_bytes}
use Rattle.worked_examples.proofs.drawing.red_clear_is_red.Goals as goal

pub returns : goal.returns
unfolding default_state default_context issued context_after effect_of effect_at pixel_step textures_step canvas_step accepted_swaps frame_pixel cleared row_bytes rgb_bytes
returns c = refl
