use Rattle.std.proofs.Common.{refl}
use Rattle.std.specs.Fmt.{digits}
use Rattle.rc_base.specs.Contexts.Context.{default_state, default_context}
use Rattle.rc_base.specs.Contexts.Issue.{issued, effect_of, context_after, effect_at, fault_at}
use Rattle.rc_base.specs.Contexts.Elements.{values_of, same_value}
use Rattle.rc_base.specs.Drawing.Serial.{pixel_step, textures_step, accepted_swaps, canvas_step, frame_pixel}
use Rattle.rc_base.specs.Drawing.Images.{row_bytes, rgb_bytes}
use Rattle.rc_base.specs.Drawing.PixelStep.{cleared}
use Rattle.rc_base.specs.Cluster.Tiles.{tile_pixels, is_in_window_box, is_in_box, meets_tile}
use Rattle.rc_base.specs.Cluster.Parcels.{told, sets_for, parcels_before, parcels_of}
use Rattle.rc_base.specs.Cluster.Looks.{is_pending, looks_at}
use Rattle.rc_base.specs.Orders.Sync.{waits_below, sync_lists_of}
use Rattle.order_model.specs.Report.{image_text_of, report_text_of}
use Rattle.worked_examples.proofs.reports.a_run_is_reported.Goals as goal

pub returns : goal.returns
unfolding digits waits_below sync_lists_of default_state default_context issued effect_of context_after effect_at fault_at pixel_step textures_step accepted_swaps canvas_step frame_pixel row_bytes rgb_bytes cleared tile_pixels is_in_window_box is_in_box meets_tile values_of same_value told sets_for parcels_before parcels_of is_pending looks_at image_text_of report_text_of
returns c = record { image = refl; report = refl }
