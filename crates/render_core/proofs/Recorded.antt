-- What is due by a cluster's record.
use Rattle.std.proofs.Common.{◌≡◌, ℕ, ◌<◌, List, None, Some, refl, sym, ap, subst, ◌∙◌}
use Rattle.std.specs.declared.option.Option.{Option}
use Rattle.rc_base.specs.Cluster.Tiles.{tile_count}
use Rattle.rc_base.specs.Formats.Limits.{layout_limit, limit_of}
use Rattle.rc_base.specs.Formats.Within.{IsWithin, IsLayoutFor}
use Rattle.rc_base.specs.Orders.Order.{IsPermitted}
use Rattle.rc_base.specs.Orders.Sync.{sync_lists_of}
use Rattle.rc_base.specs.declared.scene.Scene.{Scene}
use Rattle.rc_base.specs.declared.window.Layout.{Layout}
use Rattle.rc_base.proofs.WithinLimits.{clients_within, counts_some}
use Rattle.order_model.specs.Laws.{SceneListsAreWellFormed, RecordsOfScenesArePermitted}
use Rattle.order_model.specs.Report.{image_text_of, tile_order}
use Rattle.order_model.specs.Sent.{IsRecordOf}
use Rattle.order_model.specs.declared.record.Record.{Record}
use Rattle.render_core.specs.Due.{Outcome, IsRecorded, ending_by, report_due}
use Rattle.run_words.specs.declared.work.Work.{Work}
use Rattle.run_words.specs.Asked.{cluster_limit, layout_for, IsWellRead}
use Rattle.run_words.specs.declared.told.Ending.{Ending}
use Rattle.run_words.specs.declared.job.Cluster.{Cluster}
use Rattle.run_words.specs.declared.job.Form.TheVariants.{Bytes}

-- a scene of bytes within the limits is what calls ask for
pub scene_within : (scene : Scene) → IsWellRead Bytes scene → limit_of scene ≡ None → IsWithin scene
scene_within scene well within = record { limits = within; commands = well.1; sizes = well.0.shared }

module _ (cluster : Cluster) (scene : Scene) where
  -- and so is the layout of the words
  pub layout_within : cluster_limit cluster scene ≡ None → IsLayoutFor scene (layout_for cluster scene) cluster.depth
  unfolding layout_limit
  layout_within asked = record { width = refl; height = refl; limits = asked }

  pub layout_fits : (l : Layout) → cluster_limit cluster scene ≡ None → l ≡ layout_for cluster scene → IsLayoutFor scene l cluster.depth
  layout_fits l asked tiles = subst (λ (t : Layout). IsLayoutFor scene t cluster.depth) (sym tiles) (layout_within asked)

module _ (cluster : Cluster) (work : Work) where
  abbrev pub outcome_by : Record → Outcome
  outcome_by kept = record {
    image = image_text_of work.scene (layout_for cluster work.scene) kept;
    notes = report_due work (layout_for cluster work.scene) kept cluster.orders;
    ending = ending_by work.scene kept.journal;
    kept = Some kept;
  }

  pub is_by_record : (o : Outcome) (is : IsRecorded cluster work o) → o ≡ outcome_by is.record_kept
  is_by_record o is =
      ap (λ (l : List ℕ). record { image = l; notes = o.notes; ending = o.ending; kept = o.kept }) is.image
      ∙ ap (λ (l : List ℕ). record { image = image_text_of work.scene (layout_for cluster work.scene) is.record_kept; notes = l; ending = o.ending; kept = o.kept }) is.notes
      ∙ ap (λ (e : Ending). record { image = image_text_of work.scene (layout_for cluster work.scene) is.record_kept; notes = report_due work (layout_for cluster work.scene) is.record_kept cluster.orders; ending = e; kept = o.kept }) is.ending
      ∙ ap (λ (k : Option Record). record { image = image_text_of work.scene (layout_for cluster work.scene) is.record_kept; notes = report_due work (layout_for cluster work.scene) is.record_kept cluster.orders; ending = ending_by work.scene is.record_kept.journal; kept = k }) is.kept

  module _ (formed : SceneListsAreWellFormed) (permits : RecordsOfScenesArePermitted) (within : limit_of work.scene ≡ None) (kept : Record)
      (lawful : IsRecordOf work.scene (layout_for cluster work.scene) kept) where
    pub kept_permits : (tile : ℕ) → tile < tile_count (layout_for cluster work.scene) → IsPermitted (sync_lists_of work.scene) kept.journal (tile_order kept tile)
    kept_permits = permits work.scene (layout_for cluster work.scene) kept (formed work.scene (clients_within work.scene within).0 (counts_some work.scene within)) lawful

    pub recorded_by : IsRecorded cluster work (outcome_by kept)
    recorded_by = record { record_kept = kept; kept = refl; lawful = lawful; permitted = kept_permits; image = refl; notes = refl; ending = refl }
