-- What `render` shows, in the words of scenes, orders and frames.
use Rattle.std.specs.Prelude.{◌≡◌, ℕ, ◌<◌, List, ◌++◌, Option, Some, map, string_bytes}
use Rattle.std.specs.List.{range_with_len}
use Rattle.std.specs.declared.string.String.{String}
use Rattle.std.specs.Global.{Global}
use Rattle.rc_base.specs.Cluster.Tiles.{tile_at, tile_count}
use Rattle.rc_base.specs.Drawing.Images.{frame_images, image_from}
use Rattle.rc_base.specs.Drawing.Serial.{frame_pixel}
use Rattle.rc_base.specs.Formats.Netpbm.{p6_texts}
use Rattle.rc_base.specs.Formats.Spelling.{SpellsScene}
use Rattle.rc_base.specs.Numbers.{natural}
use Rattle.rc_base.specs.Orders.Footprints.{IsOrderedScene}
use Rattle.rc_base.specs.Orders.Journal.{IsMaximal}
use Rattle.rc_base.specs.Orders.Order.{IsPermitted}
use Rattle.rc_base.specs.Orders.Sync.{sync_lists_of}
use Rattle.rc_base.specs.Outside.Ends.{Used}
use Rattle.rc_base.specs.declared.scene.Scene.{Scene}
use Rattle.rc_base.specs.declared.sync.Name.{Name}
use Rattle.rc_base.specs.declared.window.Layout.{Layout}
use Rattle.command_line.specs.Words.{Setting, IsCommandLine}
use Rattle.command_line.specs.declared.job.JobName.TheVariants.{Render as render_name}
use Rattle.order_model.specs.Report.{frame_count, tile_order}
use Rattle.order_model.specs.declared.record.Record.{Record}
use Rattle.run_words.specs.Jobs.{AskPlainly, cluster_in}
use Rattle.render_core.specs.Outcomes.{Ran}
use Rattle.run_words.specs.Asked.{layout_for}

-- The journal goes as far as it can, and each tile's log records an order that it permits. Of each frame each pixel is that of one serial renderer over
-- the whole streams in the order of its tile. Where every two commands that conflict stand in one sequence in all permitted orders, the image is that
-- of each of these orders.
pub record ShowsItsRecord (scene : Scene) (l : Layout) (given : List ℕ) (kept : Record) : Type 0 where
  pub maximal : IsMaximal (sync_lists_of scene) kept.journal
  pub orders : (tile : ℕ) → tile < tile_count l → IsPermitted (sync_lists_of scene) kept.journal (tile_order kept tile)
  pub image : given
      ≡ p6_texts (map (λ k. image_from scene.decl (λ x y. frame_pixel scene (tile_order kept (tile_at l (natural x) (natural y))) k x y))
      (range_with_len 1 (frame_count kept.journal)))
  pub one_image : IsOrderedScene scene kept.journal → (order : List Name) → IsPermitted (sync_lists_of scene) kept.journal order
      → given ≡ p6_texts (frame_images scene order (frame_count kept.journal))

-- A run of `render` on the bytes of a scene of version 1 or 2 that ended with 0 kept a record, and gave the image what that shows.
abbrev pub RendersShowTheirRecords : Type 0
RendersShowTheirRecords =
    (words : List (String Global)) (settings : List Setting) (input : List ℕ) (scene : Scene) (source image notes : Used) (kept : Option Record)
    (held given : List ℕ) → IsCommandLine (map string_bytes words) render_name settings → SpellsScene input scene → source.before ≡ Some input
    → image.before ≡ Some held → image.after ≡ Some (held ++ given) → Ran (AskPlainly words) source image notes 0 kept
    → (r : Record) × (kept ≡ Some r) × ShowsItsRecord scene (layout_for (cluster_in settings) scene) given r
