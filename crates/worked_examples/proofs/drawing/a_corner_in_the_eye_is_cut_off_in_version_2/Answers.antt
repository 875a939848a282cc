use Rattle.std.proofs.Common.{refl}
use Rattle.rc_base.specs.Contexts.Context.{default_state, default_context}
use Rattle.rc_base.specs.Contexts.Issue.{issued, context_after, effect_of, effect_at}
use Rattle.rc_base.specs.Drawing.Serial.{pixel_step, textures_step, canvas_step, accepted_swaps, frame_pixel}
use Rattle.rc_base.specs.Drawing.Triangles.{triangles_of}
use Rattle.rc_base.specs.Drawing.Window.{clip_of, axis_of, depth_of, window_of, is_placed, window_at, is_placed_at}
use Rattle.rc_base.specs.Drawing.Kept.{is_shown, oriented, kept_of, is_kept_at, kept_at}
use Rattle.rc_base.specs.Drawing.Pieces.{pieces_of, kept_pieces, is_cuttable, is_in_front, crossing_point, polygon_of, front_pieces}
use Rattle.rc_base.specs.Drawing.Cover.{is_within_edge, is_inside, covers}
use Rattle.rc_base.specs.Drawing.Fragment.{interpolated, fragment_of}
use Rattle.rc_base.specs.Drawing.PixelStep.{textured, shaded, block_step}
use Rattle.worked_examples.proofs.drawing.a_corner_in_the_eye_is_cut_off_in_version_2.Goals as goal

pub returns : goal.returns
unfolding default_state default_context issued context_after effect_of effect_at pixel_step textures_step canvas_step accepted_swaps frame_pixel triangles_of clip_of axis_of depth_of window_of is_placed is_shown oriented kept_of kept_at is_kept_at pieces_of kept_pieces is_cuttable is_in_front crossing_point polygon_of front_pieces window_at is_placed_at is_within_edge is_inside covers interpolated fragment_of textured shaded block_step
returns c = record { cut = refl; culled = refl }
