-- What a run on tiles has shown before memory lacked.
use Rattle.std.specs.Prelude.{◌≡◌, ℕ, ◌<◌, List, Some}
use Rattle.rc_base.specs.Cluster.Tiles.{tile_count}
use Rattle.rc_base.specs.Drawing.Images.{frame_images}
use Rattle.rc_base.specs.Formats.Netpbm.{p6_texts}
use Rattle.rc_base.specs.Orders.Footprints.{IsOrderedScene}
use Rattle.rc_base.specs.Orders.Order.{IsPermitted}
use Rattle.rc_base.specs.Orders.Sync.{sync_lists_of}
use Rattle.rc_base.specs.Outside.Ends.{Used, TookFront}
use Rattle.rc_base.specs.declared.sync.Name.{Name}
use Rattle.order_model.specs.Report.{frame_count, tile_order}
use Rattle.order_model.specs.Sent.{IsRecordOf}
use Rattle.order_model.specs.Uncontended.{IsUncontended}
use Rattle.order_model.specs.declared.record.Record.{Record}
use Rattle.run_words.specs.Asked.{layout_for}
use Rattle.run_words.specs.Jobs.{Task, cluster_of}
use Rattle.run_words.specs.declared.job.Cluster.{Cluster}
use Rattle.run_words.specs.declared.work.Work.{Work}
use Rattle.render_core.specs.Due.{default_frames, journal_of}
use Rattle.render_core.specs.Outcomes.{PartlyWritten, frames_text}
use Rattle.render_core.specs.Scenes.{HasWork}

-- The image was given a front of the frames of a whole run of the task's scene: each tile's order is one that this run's journal permits. Where every two
-- commands that conflict stand in one sequence in all permitted orders, it is a front of the frames of each of these orders; where nobody contends and the
-- default journal orders the scene, of what `serial` writes.
pub record ShowsAFront (task : Task) (cluster : Cluster) (source image : Used) : Type 0 where
  pub work : Work
  pub has : HasWork task source work
  pub kept : Record
  pub lawful : IsRecordOf work.scene (layout_for cluster work.scene) kept
  pub orders : (tile : ℕ) → tile < tile_count (layout_for cluster work.scene) → IsPermitted (sync_lists_of work.scene) kept.journal (tile_order kept tile)
  pub front : TookFront image (frames_text cluster work.scene kept)
  pub one_image : IsOrderedScene work.scene kept.journal → (order : List Name) → IsPermitted (sync_lists_of work.scene) kept.journal order
      → TookFront image (p6_texts (frame_images work.scene order (frame_count kept.journal)))
  pub serial_image : IsUncontended (sync_lists_of work.scene) → IsOrderedScene work.scene (journal_of work.scene)
      → TookFront image (p6_texts (default_frames work.scene))

-- so it is where a job on tiles left a front of what is due
abbrev pub RunsWithoutMemoryShowAFront : Type 0
RunsWithoutMemoryShowAFront =
    (task : Task) (cluster : Cluster) (source image : Used) → cluster_of task.job ≡ Some cluster → PartlyWritten task source image
    → ShowsAFront task cluster source image
