use Rattle.std.proofs.Common.{refl}
use Rattle.rc_base.specs.Intervals.{row_over, transformed_over, quotient_over}
use Rattle.rc_base.specs.Contexts.Context.{default_state, default_context}
use Rattle.rc_base.specs.Contexts.Issue.{issued, context_after, effect_of, effect_at, fault_at}
use Rattle.rc_base.specs.Drawing.Triangles.{triangles_of}
use Rattle.rc_base.specs.Cluster.ObjectBox.{hull_of, bounding_box, clip_over, axis_over, is_amid_places, is_in_object_box}
use Rattle.rc_base.specs.Cluster.Tiles.{tile_pixels, is_in_box, meets_tile}
use Rattle.rc_base.specs.Contexts.Elements.{values_of, same_value}
use Rattle.rc_base.specs.Cluster.Parcels.{told, sets_for, parcels_before, parcels_of}
use Rattle.rc_base.specs.Cluster.Looks.{is_pending, looks_at}
use Rattle.worked_examples.proofs.tiles.a_culled_triangle_of_version_2_goes_to_its_tile.Goals as goal

pub returns : goal.returns
unfolding row_over transformed_over quotient_over default_state default_context issued context_after effect_of effect_at fault_at triangles_of hull_of bounding_box clip_over axis_over is_amid_places is_in_object_box tile_pixels is_in_box meets_tile values_of same_value told sets_for parcels_before parcels_of is_pending looks_at
returns c = refl
