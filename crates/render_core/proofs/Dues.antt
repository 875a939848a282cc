-- What is made of a scene is what is due for it.
use Rattle.std.proofs.Common.{◌≡◌, ℕ, List, [], length, Bool, Option, None, refl, sym, ap, ap₂, ◌∙◌, subst, true, arith}
use Rattle.std.specs.Prelude.{◌↔◌, ◌≤◌, IsSome, IfSome, is_some, slice_index_or, if◌then◌else◌}
use Rattle.rc_base.specs.Contexts.Issue.{faults_of}
use Rattle.rc_base.specs.Drawing.Images.{frame_images}
use Rattle.rc_base.specs.Formats.Netpbm.{p6_texts}
use Rattle.rc_base.specs.Orders.Footprints.{footprint_of}
use Rattle.rc_base.specs.Orders.Journal.{IsLegal, IsMaximal, waiting_of}
use Rattle.rc_base.specs.Orders.Order.{IsPermitted, default_journal, default_order}
use Rattle.rc_base.specs.Orders.Sync.{IsWellFormed, sync_lists_of}
use Rattle.rc_base.specs.declared.image.Image.{Image}
use Rattle.rc_base.specs.declared.scene.Scene.{Scene}
use Rattle.rc_base.specs.declared.state.Fault.{Fault}
use Rattle.rc_base.specs.declared.sync.Entry.{Entry}
use Rattle.rc_base.specs.declared.sync.Name.{Name}
use Rattle.rc_base.specs.declared.sync.SyncLists.{SyncLists}
use Rattle.rc_base.specs.declared.sync.Waiting.{Waiting}
use Rattle.order_model.specs.Laws.{DefaultJournalIsMaximal, DefaultOrdersArePermitted}
use Rattle.order_model.specs.Report.{frame_count, is_stuck}
use Rattle.run_words.specs.declared.work.Work.{Work}
use Rattle.render_core.specs.declared.due.DefaultRun.{DefaultRun}
use Rattle.run_words.specs.declared.told.Ending.{Ending}
use Rattle.run_words.specs.declared.told.Ending.TheVariants.{Complete, Stuck}
use Rattle.race_check.specs.Races.{IsVerdict}
use Rattle.race_check.specs.declared.verdict.Verdict.{Verdict}
use Rattle.run_words.specs.declared.job.Job.TheVariants.{Serial, Last, Check, Race}
use Rattle.render_core.specs.Due.{Outcome, IsOutcome, IsVerdictOn, drawn_in_order, default_ending, default_frames, found_by, journal_of, short_due}
use Rattle.run_words.specs.Lines.{race_line}
use Rattle.run_words.specs.Reports.{lines_of_turns}
use Rattle.render_core.specs.Runs.{AreOf, IsDefault}
use Rattle.render_core.proofs.ReportLines.{report_told, is_stuck_of}

-- what is due without a record
abbrev pub plain : List ℕ → List ℕ → Ending → Outcome
plain image notes ending = record { image = image; notes = notes; ending = ending; kept = None }

-- ---- what is due by the default journal

module _ (work : Work) (faults : List (List (ℕ × Fault))) (journal : List Entry) (waiting : Option Waiting) (are : AreOf work.scene faults journal waiting)
    (by_default : journal ≡ journal_of work.scene) where
  abbrev scene : Scene
  scene = work.scene

  -- its report
  pub told_with : (told notes : List ℕ) → notes ≡ lines_of_turns work faults journal told waiting → notes ≡ short_due work told (journal_of scene)
  told_with told notes e = e ∙ report_told work faults journal waiting are told ∙ ap (short_due work told) by_default

  stuck_is : is_some waiting ≡ is_stuck (sync_lists_of scene) (journal_of scene)
  stuck_is = is_stuck_of scene journal waiting are.stuck ∙ ap (is_stuck (sync_lists_of scene)) by_default

  -- how a job ends that ends so where nobody waits
  pub ends_by : (free ending : Ending) → ending ≡ (if is_some waiting then Stuck else free)
      → ending ≡ (if is_stuck (sync_lists_of scene) (journal_of scene) then Stuck else free)
  ends_by free ending e = e ∙ ap (λ (b : Bool). if b then Stuck else free) stuck_is

  module _ (ending : Ending) (ending_is : ending ≡ (if is_some waiting then Stuck else Complete)) (notes : List ℕ)
      (notes_are : notes ≡ short_due work [] (journal_of scene)) where
    pub shown : (image : List ℕ) → plain image notes ending ≡ plain image (short_due work [] (journal_of scene)) (default_ending scene)
    unfolding default_ending
    shown image = ap₂ (plain image) notes_are (ends_by Complete ending ending_is)

    pub drawn : (order : List Name) → order ≡ default_order (sync_lists_of scene) (journal_of scene) → (images : List Image)
        → images ≡ frame_images scene order (frame_count journal) → plain (p6_texts images) notes ending ≡ drawn_in_order work
    unfolding default_frames
    drawn order order_is images are =
        let frames : images ≡ frame_images scene (default_order (sync_lists_of scene) (journal_of scene)) (frame_count (journal_of scene)) =
        are ∙ ap (λ (o : List Name). frame_images scene o (frame_count journal)) order_is
        ∙ ap (λ (j : List Entry). frame_images scene (default_order (sync_lists_of scene) (journal_of scene)) (frame_count j)) by_default in
        ap (λ (xs : List Image). plain (p6_texts xs) notes ending) frames
        ∙ shown (p6_texts (frame_images scene (default_order (sync_lists_of scene) (journal_of scene)) (frame_count (journal_of scene))))

-- ---- the default journal of a scene's lists, and who it leaves waiting

module _ (scene : Scene) (syncs : SyncLists) (same : syncs ≡ sync_lists_of scene) (journal : List Entry) (waiting : Option Waiting)
    (journal_is : journal ≡ default_journal syncs) (stuck : IsSome waiting ↔ (is_stuck syncs journal ≡ true))
    (waits : IfSome waiting (λ w. (client : ℕ) → slice_index_or w.at client None ≡ waiting_of syncs journal client)) where
  by_lists : journal ≡ journal_of scene
  by_lists = journal_is ∙ ap default_journal same

  module _ (well : IsWellFormed (sync_lists_of scene)) (maximal : DefaultJournalIsMaximal) where
    most : IsMaximal (sync_lists_of scene) journal
    most = subst (IsMaximal (sync_lists_of scene)) (sym by_lists) (maximal (sync_lists_of scene) well)

    pub lawful : IsLegal (sync_lists_of scene) journal
    lawful = most.0

  module _ (faults : List (List (ℕ × Fault))) (count : length faults ≡ length scene.streams)
      (each : (client : ℕ) → slice_index_or faults client [] ≡ faults_of scene client) where
    told_of : AreOf scene faults journal waiting
    told_of = record {
      clients = count;
      faults_are = each;
      stuck = subst (λ (s : SyncLists). IsSome waiting ↔ (is_stuck s journal ≡ true)) same stuck;
      waits = subst (λ (s : SyncLists). IfSome waiting (λ w. (client : ℕ) → slice_index_or w.at client None ≡ waiting_of s journal client)) same waits;
    }

    module _ (order : List Name) (order_is : order ≡ default_order syncs journal) where
      by_order : order ≡ default_order (sync_lists_of scene) journal
      by_order = order_is ∙ ap (λ (s : SyncLists). default_order s journal) same

      in_turn : order ≡ default_order (sync_lists_of scene) (journal_of scene)
      in_turn = by_order ∙ ap (default_order (sync_lists_of scene)) by_lists

      pub default_is : IsWellFormed (sync_lists_of scene) → length scene.streams ≤ 8 → DefaultJournalIsMaximal → DefaultOrdersArePermitted
          → IsDefault scene (record { syncs = syncs; journal = journal; order = order; faults = faults; waiting = waiting })
      default_is well few maximal permits = record {
        syncs = same;
        journal = by_lists;
        order = in_turn;
        are = told_of;
        few = omega (arith, count, few);
        maximal = most well maximal;
        permitted =
            subst (IsPermitted (sync_lists_of scene) journal) (sym by_order) (permits (sync_lists_of scene) journal well (lawful well maximal));
      }

    -- where clients are drawn apart
    pub last_due : (work : Work) → work.scene ≡ scene → (images : List Image) → images ≡ frame_images scene (default_order syncs journal) (frame_count journal)
        → (notes : List ℕ) → notes ≡ lines_of_turns work faults journal [] waiting → (ending : Ending)
        → ending ≡ (if is_some waiting then Stuck else Complete) → IsOutcome Last work (plain (p6_texts images) notes ending)
    unfolding IsOutcome
    last_due work own images are notes notes_are ending ending_is =
        let told = subst (λ (s : Scene). AreOf s faults journal waiting) (sym own) told_of in
        let lists = subst (λ (s : Scene). journal ≡ journal_of s) (sym own) by_lists in
        let turn = subst (λ (s : Scene). default_order syncs journal ≡ default_order (sync_lists_of s) (journal_of s)) (sym own) (in_turn (default_order syncs journal) refl) in
        drawn work faults journal waiting told lists ending ending_is notes (told_with work faults journal waiting told lists [] notes notes_are)
        (default_order syncs journal) turn images (subst (λ (s : Scene). images ≡ frame_images s (default_order syncs journal) (frame_count journal)) (sym own) are)

-- ---- what is due by the default run

module _ (work : Work) (run : DefaultRun) (is : IsDefault work.scene run) where
  module _ (ending : Ending) (ending_is : ending ≡ (if is_some run.waiting then Stuck else Complete)) (notes : List ℕ)
      (notes_are : notes ≡ short_due work [] (journal_of work.scene)) where
    pub serial_due : (images : List Image) → images ≡ frame_images work.scene run.order (frame_count run.journal)
        → IsOutcome Serial work (plain (p6_texts images) notes ending)
    unfolding IsOutcome
    serial_due images are = drawn work run.faults run.journal run.waiting is.are is.journal ending ending_is notes notes_are run.order is.order images are

    pub check_due : IsOutcome Check work (plain [] notes ending)
    unfolding IsOutcome
    check_due = shown work run.faults run.journal run.waiting is.are is.journal ending ending_is notes notes_are []

  -- what is due where it is asked which commands race
  module _ (v : Verdict) (found : IsVerdict (sync_lists_of work.scene) run.journal run.order (footprint_of work.scene) v) where
    on_default : IsVerdictOn work.scene v
    on_default =
        subst (λ (o : List Name). IsVerdict (sync_lists_of work.scene) (journal_of work.scene) o (footprint_of work.scene) v) is.order
        (subst (λ (j : List Entry). IsVerdict (sync_lists_of work.scene) j run.order (footprint_of work.scene) v) is.journal found)

    pub race_due : (notes : List ℕ) → notes ≡ short_due work (race_line v) (journal_of work.scene)
        → (ending : Ending) → ending ≡ (if is_some run.waiting then Stuck else found_by v)
        → IsOutcome Race work (plain [] notes ending)
    unfolding IsOutcome
    race_due notes notes_are ending ending_is = record {
      told = v;
      is = on_default;
      due = ap₂ (plain []) notes_are (ends_by work run.faults run.journal run.waiting is.are is.journal (found_by v) ending ending_is);
    }
