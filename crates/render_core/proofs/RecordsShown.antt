-- `render` shows what its record tells.
use Rattle.std.proofs.Common.{◌≡◌, ℕ, List, [], inl, refl, ◌∙◌, subst}
use Rattle.std.specs.declared.option.Option.{Option}
use Rattle.rc_base.specs.declared.scene.Scene.{Scene}
use Rattle.command_line.specs.Laws.{OneReading}
use Rattle.command_line.specs.Words.{Setting}
use Rattle.command_line.specs.declared.job.JobName.TheVariants.{Render as render_name}
use Rattle.order_model.specs.Report.{image_text_of}
use Rattle.order_model.specs.declared.record.Record.{Record}
use Rattle.scene_file.specs.Laws.{FormsAreApart, ListScenesAreOne, ScenesAreOne}
use Rattle.scene_text.specs.Laws.{OneScene}
use Rattle.spu_chain.specs.Laws.{ChainsFollow, MembersFollow}
use Rattle.run_words.specs.declared.job.Job.TheVariants.{Render}
use Rattle.render_core.specs.Due.{IsOutcome, IsRecorded}
use Rattle.render_core.specs.Foreseen.{RunOf}
use Rattle.run_words.specs.Jobs.{AskPlainly, cluster_in, task_of}
use Rattle.render_core.specs.Laws.{OrderedRecordsShowOneImage}
use Rattle.render_core.specs.Scenes.{Plain}
use Rattle.run_words.specs.Asked.{layout_for}
use Rattle.render_core.specs.Shows.{RendersShowTheirRecords, ShowsItsRecord}
use Rattle.render_core.proofs.DecidedBefore.{Carried, carried_out, scene_is}
use Rattle.render_core.proofs.Endings.{same_task}
use Rattle.render_core.proofs.PlainScenes.{plain_scene}

module _ (bytes : ScenesAreOne) (lists : ListScenesAreOne) (differ : FormsAreApart) (text : OneScene) (reading : OneReading) (members : MembersFollow)
    (chains : ChainsFollow) (shows : OrderedRecordsShowOneImage) where
  module _ (settings : List Setting) (input : List ℕ) (kept : Option Record) (given : List ℕ)
      (c : Carried (task_of [] (Render (cluster_in settings))) input 0 given kept) where
    recorded : IsRecorded (cluster_in settings) c.work c.o
    unfolding IsOutcome
    recorded = c.due

    shown : given ≡ image_text_of c.work.scene (layout_for (cluster_in settings) c.work.scene) recorded.record_kept
    shown = c.whole (inl refl) ∙ recorded.image

    own : ShowsItsRecord c.work.scene (layout_for (cluster_in settings) c.work.scene) given recorded.record_kept
    unfolding image_text_of
    own = record {
      maximal = recorded.lawful.maximal;
      orders = recorded.permitted;
      image = shown;
      one_image = λ ordered order permitted. shown
          ∙ (shows (task_of [] (Render (cluster_in settings))) (cluster_in settings) input c.work recorded.record_kept refl c.is recorded.lawful ordered).0.text order permitted;
    }

  pub records_shown : RendersShowTheirRecords
  records_shown words settings input scene source image notes kept held given line spelled told before after ran =
      let asked : AskPlainly words (task_of [] (Render (cluster_in settings))) = (refl, record { name = render_name; settings = settings; line = line; asked = refl }) in
      let run : RunOf AskPlainly (task_of [] (Render (cluster_in settings))) input 0 given =
      record { words = words; asks = asked; source = source; image = image; notes = notes; kept = kept; ran = ran; told = told; held = held; before = before; after = after } in
      let c = carried_out AskPlainly (same_task reading) (task_of [] (Render (cluster_in settings))) refl input 0 given run (inl refl) in
      let same : c.work.scene ≡ scene =
      scene_is bytes lists differ text (task_of [] (Render (cluster_in settings))) refl input (Plain scene) spelled c.work c.is ∙ plain_scene members chains scene in
      let r = recorded settings input kept given c in (
        r.record_kept,
        c.kept_is ∙ r.kept,
        subst (λ (s : Scene). ShowsItsRecord s (layout_for (cluster_in settings) s) given r.record_kept) same (own settings input kept given c),
      )
