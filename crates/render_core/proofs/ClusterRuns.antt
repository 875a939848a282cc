-- What the stepped cluster leaves is its run: frames, report and ending.
use Rattle.std.proofs.Common.{◌≡◌, ℕ, ◌<◌, List, None, Some, refl, sym, ap, subst, ◌∙◌}
use Rattle.rc_base.specs.Cluster.Tiles.{tile_count}
use Rattle.rc_base.specs.Drawing.Images.{Pixels}
use Rattle.rc_base.specs.Formats.Limits.{limit_of}
use Rattle.rc_base.specs.Formats.Netpbm.{p6_texts}
use Rattle.rc_base.specs.declared.image.Image.{Image}
use Rattle.rc_base.specs.declared.scene.Scene.{Scene}
use Rattle.rc_base.specs.declared.window.Layout.{Layout}
use Rattle.frame_out.specs.Frames.{frame_total, window_images, ShowFrames}
use Rattle.frame_out.specs.Laws.{FramesOfScenesAreWritable, HasWindow}
use Rattle.frame_out.specs.Writing.{AreWritable}
use Rattle.order_model.specs.Laws.{SceneListsAreWellFormed, RecordsOfScenesArePermitted}
use Rattle.order_model.specs.Report.{frame_count, image_text_of, recorded_pixel}
use Rattle.run_record.specs.ImageText.{RecordedFramesHaveTheImageText, WholeRunsShowFrames}
use Rattle.run_record.specs.Told.{IsRun}
use Rattle.step_core.specs.CoreRuns.{IsCoreRun, IsFinish}
use Rattle.step_core.specs.Schedules.{WorldView, picks_of, IsRightFor}
use Rattle.step_core.specs.declared.rounds.CoreRun.{CoreRun}
use Rattle.render_core.specs.Due.{IsStepped}
use Rattle.run_words.specs.declared.work.Work.{Work}
use Rattle.run_words.specs.Asked.{layout_for}
use Rattle.render_core.specs.Runs.{IsAccount}
use Rattle.render_core.specs.declared.cluster.Account.{Account}
use Rattle.run_words.specs.declared.job.Cluster.{Cluster}
use Rattle.render_core.proofs.Recorded.{kept_permits}

-- what a world is brought to is what its scene, its layout, its depth and its picks are brought to
pub finish_of : (scene : Scene) (l : Layout) (depth : ℕ) (picks : List ℕ) (world : WorldView) (run : CoreRun) → (world.scene ≡ scene) × (world.layout ≡ l) × (world.depth ≡ depth)
    → IsRightFor picks world → IsFinish world.scene world.layout world.depth (picks_of world) run → IsFinish scene l depth picks run
finish_of scene l depth picks world run given right is =
    let by_picks = subst (λ (ps : List ℕ). IsFinish world.scene world.layout world.depth ps run) right.run.actors is in
    let by_scene = subst (λ (s : Scene). IsFinish s world.layout world.depth picks run) given.0 by_picks in
    let by_layout = subst (λ (t : Layout). IsFinish scene t world.depth picks run) given.1 by_scene in
    subst (λ (d : ℕ). IsFinish scene l d picks run) given.2 by_layout

pub run_of : (scene : Scene) (l : Layout) (run : CoreRun) → IsCoreRun scene l run → IsRun scene l run.kept run.tallies run.waiting run.faults
run_of scene l run is = record { lawful = is.lawful; tallies_are = is.tallies; waiting_is = is.waiting; faults_are = is.faults }

module _ (cluster : Cluster) (scene : Scene) (run : CoreRun) (is : IsCoreRun scene (layout_for cluster scene) run) where
  abbrev l : Layout
  l = layout_for cluster scene

  window : HasWindow scene l
  window = record { width = refl; height = refl }

  -- the frames of its parts
  module _ (law : WholeRunsShowFrames) (some : 0 < tile_count l) (frames : List Image)
      (shown : (pixels : ℕ → Pixels) → ShowFrames l run.parts pixels → frames ≡ window_images l pixels (frame_total l run.parts)) where
    pub drawn : frames ≡ window_images l (recorded_pixel scene l run.kept) (frame_count run.kept.journal)
    drawn =
        let record_shown = law scene l run.kept run.parts is.parts some in
        shown (recorded_pixel scene l run.kept) record_shown.shown ∙ ap (window_images l (recorded_pixel scene l run.kept)) record_shown.count

    pub are_writable : FramesOfScenesAreWritable → limit_of scene ≡ None → AreWritable frames
    are_writable few within =
        subst AreWritable (sym drawn) (few scene l run.kept.journal (recorded_pixel scene l run.kept) within window is.lawful.maximal.0)

    pub text_is : RecordedFramesHaveTheImageText → p6_texts frames ≡ image_text_of scene l run.kept
    text_is texts = ap p6_texts drawn ∙ texts scene l run.kept window

-- all of it
pub is_stepped : (cluster : Cluster) (picks : List ℕ) (work : Work) (run : CoreRun) → SceneListsAreWellFormed → RecordsOfScenesArePermitted → limit_of work.scene ≡ None
    → IsFinish work.scene (layout_for cluster work.scene) cluster.depth picks run → (image : List ℕ) → image ≡ image_text_of work.scene (layout_for cluster work.scene) run.kept
    → (account : Account) → IsAccount work (layout_for cluster work.scene) run.kept cluster.orders account
    → IsStepped cluster picks work (record { image = image; notes = account.notes; ending = account.ending; kept = Some run.kept })
is_stepped cluster picks work run formed permits within is image image_is account told = record {
  recorded = record {
    record_kept = run.kept;
    kept = refl;
    lawful = is.run_of.lawful;
    permitted = kept_permits cluster work formed permits within run.kept is.run_of.lawful;
    image = image_is;
    notes = told.notes;
    ending = told.ending;
  };
  stepped = record { rounds = is.rounds; moves = is.moves; world = is.world; finished = is.finished; record_of = is.record_of };
}
