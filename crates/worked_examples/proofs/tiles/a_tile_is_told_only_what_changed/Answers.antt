use Rattle.std.proofs.Common.{refl}
use Rattle.rc_base.specs.Contexts.Context.{default_state, default_context}
use Rattle.rc_base.specs.Contexts.Issue.{issued, context_after, effect_of, effect_at, fault_at}
use Rattle.rc_base.specs.Drawing.Triangles.{triangles_of}
use Rattle.rc_base.specs.Drawing.Window.{clip_of, axis_of, depth_of, window_of, is_placed, window_at, is_placed_at}
use Rattle.rc_base.specs.Drawing.Kept.{is_shown, oriented, kept_of, is_kept_at, kept_at}
use Rattle.rc_base.specs.Drawing.Pieces.{pieces_of, kept_pieces}
use Rattle.rc_base.specs.Drawing.Cover.{is_within_edge, is_inside, covers}
use Rattle.rc_base.specs.Cluster.Tiles.{tile_pixels, is_in_window_box, is_in_box, meets_tile}
use Rattle.rc_base.specs.Contexts.Elements.{values_of, same_value}
use Rattle.rc_base.specs.Cluster.Parcels.{told, sets_for, parcels_before, parcels_of}
use Rattle.rc_base.specs.Cluster.Looks.{is_pending, looks_at}
use Rattle.worked_examples.proofs.tiles.a_tile_is_told_only_what_changed.Goals as goal

pub returns : goal.returns
unfolding default_state default_context issued context_after effect_of effect_at fault_at triangles_of clip_of axis_of depth_of window_of is_placed is_shown oriented kept_of kept_at is_kept_at pieces_of kept_pieces window_at is_placed_at is_within_edge is_inside covers tile_pixels is_in_window_box is_in_box meets_tile values_of same_value told sets_for parcels_before parcels_of is_pending looks_at
returns c = record { left = refl; right = refl }
