-- Where nobody contends, `check`, `race` and `serial` decide before the show what `render` and `simulate` do.
use Rattle.std.proofs.Common.{◌≡◌, ◌≢◌, ◌↔◌, ℕ, ◌⊎◌, inl, inr, Bool, true, false, List, [], ◌++◌, take, drop, None, Some, refl, sym, ap, subst, ◌∙◌, take-append-drop, append-nil, arith}
use Rattle.std.specs.Prelude.{String, unwrap_or, if◌then◌else◌}
use Rattle.std.specs.Global.{Global}
use Rattle.std.specs.declared.option.Option.{Option}
use Rattle.std.proofs.lemmas.List.{append_cancel_left}
use Rattle.std.specs.Io.KnownBytes.{Appends, Consumes, IsAtEnd}
use Rattle.rc_base.specs.Formats.Netpbm.{p6_texts}
use Rattle.rc_base.specs.Lists.{IsFront}
use Rattle.rc_base.specs.Orders.Footprints.{IsOrderedScene}
use Rattle.rc_base.specs.Orders.Sync.{sync_lists_of}
use Rattle.rc_base.specs.Outside.Ends.{Took, TookInput}
use Rattle.rc_base.specs.declared.scene.Scene.{Scene}
use Rattle.command_line.specs.Laws.{OneChain, OneReading}
use Rattle.happens_before.specs.Laws.{ScenesOfOrderedConflictsAreOrdered}
use Rattle.order_model.specs.Report.{is_stuck}
use Rattle.order_model.specs.Uncontended.{TakesAlone, IsUncontended}
use Rattle.order_model.specs.declared.record.Record.{Record}
use Rattle.race_check.specs.declared.verdict.Verdict.{Verdict}
use Rattle.race_check.specs.declared.verdict.Verdict.TheVariants as verdict
use Rattle.scene_file.specs.Laws.{FormsAreApart, ListScenesAreOne, ScenesAreOne}
use Rattle.scene_text.specs.Laws.{OneScene}
use Rattle.spu_chain.specs.Scenes.{scene_by}
use Rattle.spu_chain.specs.declared.rule.SpuRule.{SpuRule}
use Rattle.run_words.specs.declared.told.Ending.TheVariants.{Complete, Stuck as EndsStuck}
use Rattle.run_words.specs.declared.job.Cluster.{Cluster}
use Rattle.run_words.specs.declared.job.Form.TheVariants.{Bytes}
use Rattle.run_words.specs.declared.job.Job.{Job}
use Rattle.run_words.specs.declared.job.Job.TheVariants.{Render, Simulate, Serial, Check, Race}
use Rattle.run_words.specs.declared.job.Origin.{Origin}
use Rattle.run_words.specs.declared.job.Origin.TheVariants.{Read}
use Rattle.run_words.specs.declared.work.Work.{Work}
use Rattle.render_core.specs.Due.{Outcome, IsOutcome, IsRaced, IsRecorded, IsVerdictOn, default_ending, default_frames, ending_by, found_by, journal_of}
use Rattle.render_core.specs.Findings.{Finding, Long, Malformed, Outside, Unsuited, Sound, refused_with}
use Rattle.render_core.specs.Foreseen.{Asking, RunOf, IsDueStatus, DrawsOnTiles, EndsAreForeseen, ImagesAreForeseen, ShowsAreForeseen, ShowsAreDecidedBefore, DealtShowsAreForeseen, DealtShowsAreDecidedBefore}
use Rattle.run_words.specs.Jobs.{AskFiltered, AskPlainly, ForTask, Task, cluster_of, origin_of, task_of}
use Rattle.render_core.specs.Laws.{RecordsAreForeseen}
use Rattle.render_core.specs.Outcomes.{IsDue, Sent, Whole, Front, IsDone, IsUnnoted, IsReported, Cause, SourceFailed, InputRefused, ImageFailed, IsRefused, Ran, Usage, Done, NotesFailed, Stuck, RaceFound, Refused, NoMemory, ShowsTheSerialImage}
use Rattle.render_core.specs.Scenes.{Found, HasWork, IsInput, Spells, Gives, Takes, is_filtered, meant}
use Rattle.render_core.proofs.Endings.{front_whole, same_filtered, same_task}
use Rattle.render_core.proofs.Headline.{complete_is, neither_stuck}
use Rattle.render_core.proofs.Judging.{one_given}

-- ---- what a run took of its source and gave to its image

-- what was carried out for this: the task's work of the whole input, what is due for it, and so much of that
pub record Carried (task : Task) (input : List ℕ) (status : ℕ) (given : List ℕ) (kept : Option Record) : Type 0 where
  pub work : Work
  pub is : IsInput task input work
  pub o : Outcome
  pub due : IsOutcome task.job work o
  pub stuck : (status ≡ 5) ↔ (o.ending ≡ EndsStuck)
  pub done : status ≡ 0 → o.ending ≡ Complete
  pub front : IsFront given o.image
  pub whole : (status ≡ 0) ⊎ (status ≡ 8) → given ≡ o.image
  pub kept_is : kept ≡ o.kept

-- a source that is at its end was taken whole
taken_whole : (input taken : List ℕ) (before after : Option (List ℕ)) → before ≡ Some input → Consumes before after taken → IsAtEnd after → taken ≡ input
taken_whole input taken before after told took end = go after (subst (λ (b : Option (List ℕ)). Consumes b after taken) told took) end where
  go : (after : Option (List ℕ)) → Consumes (Some input) after taken → IsAtEnd after → taken ≡ input
  go None took end = absurd took
  go (Some rest) took end = front_whole taken input rest took end

refused_status : (finding : Finding) (status : ℕ) → refused_with finding ≡ Some status → (status ≡ 3) ⊎ (status ≡ 4) ⊎ (status ≡ 12)
refused_status Long status e = inr (inl (sym (ap (λ (o : Option ℕ). unwrap_or o 0) e)))
refused_status Malformed status e = inl (sym (ap (λ (o : Option ℕ). unwrap_or o 0) e))
refused_status (Outside limit) status e = inr (inl (sym (ap (λ (o : Option ℕ). unwrap_or o 0) e)))
refused_status (Unsuited name) status e = inr (inr (sym (ap (λ (o : Option ℕ). unwrap_or o 0) e)))
refused_status (Sound work) status e = absurd cc

not_out : (status n : ℕ) → status ≡ n → n ≢ 0 → n ≢ 5 → n ≢ 6 → n ≢ 8 → IsDueStatus status → ⊥
not_out status n is zero five six eight out = elim out [
  | inl a ↦ zero (sym is ∙ a)
  | inr (inl b) ↦ five (sym is ∙ b)
  | inr (inr (inl c)) ↦ six (sym is ∙ c)
  | inr (inr (inr d)) ↦ eight (sym is ∙ d)
]

module _ (ask : Asking) (one : (words : List (String Global)) (a b : Task) → ask words a → ask words b → a ≡ b) where
  module _ (task : Task) (reads : origin_of task.job ≡ Read Bytes) (input : List ℕ) (status : ℕ) (given : List ℕ) (run : RunOf ask task input status given) where
    at : (holds : Task → Type 0) → ForTask (ask run.words) holds → holds task
    at holds h = subst holds (one run.words h.0 task h.1 run.asks) h.2

    worked : (work : Work) → HasWork task run.source work → IsInput task input work
    worked work has = subst (λ (l : List ℕ). IsInput task l work) same has.is where
      took : TookInput run.source has.input
      took = subst (λ (o : Origin). Takes o run.source has.input) reads has.took

      same : has.input ≡ input
      same = taken_whole input has.input run.source.before run.source.after run.told took.taken (took.all has.is.short)

    given_is : (text : List ℕ) → Took run.image text → given ≡ text
    given_is text took =
        append_cancel_left run.held given text
        (subst (λ (a : Option (List ℕ)). Appends (Some run.held) a text) run.after (subst (λ (b : Option (List ℕ)). Appends b run.image.after text) run.before took))

    whole_front : (text : List ℕ) → given ≡ text → IsFront given text
    whole_front text e = ([], sym e ∙ sym (append-nil given))

    part_front : (text : List ℕ) (n : ℕ) → Took run.image (take n text) → IsFront given text
    part_front text n took =
        (drop n text, sym (take-append-drop n text) ∙ ap (λ (l : List ℕ). l ++ drop n text) (sym (given_is (take n text) took)))

    sent_front : (o : Outcome) (lines : List ℕ) → Sent run.image o lines → IsFront given o.image
    sent_front o lines (Whole took calm same) = whole_front o.image (given_is o.image took)
    sent_front o lines (Front short cut) = part_front o.image cut.done cut.given

    carried : (o : Outcome) → IsDue task run.source o → (status ≡ 5) ↔ (o.ending ≡ EndsStuck) → (status ≡ 0 → o.ending ≡ Complete) → IsFront given o.image
        → ((status ≡ 0) ⊎ (status ≡ 8) → given ≡ o.image) → run.kept ≡ o.kept → Carried task input status given run.kept
    carried o due stuck done front whole kept_is = record {
      work = due.work;
      is = worked due.work due.has;
      o = o;
      due = due.due;
      stuck = stuck;
      done = done;
      front = front;
      whole = whole;
      kept_is = kept_is;
    }

    caused : (line : List ℕ) → Cause task run.source run.image status line run.kept → IsDueStatus status → Carried task input status given run.kept
    caused line (SourceFailed reads_it is told failed none) out =
        absurd (not_out status 2 is (λ e. omega (arith, e)) (λ e. omega (arith, e)) (λ e. omega (arith, e)) (λ e. omega (arith, e)) out)
    caused line (InputRefused judged none) out = elim (refused_status judged.judged.finding status judged.judged.refused) [
      | inl three ↦ absurd (not_out status 3 three (λ e. omega (arith, e)) (λ e. omega (arith, e)) (λ e. omega (arith, e)) (λ e. omega (arith, e)) out)
      | inr (inl four) ↦ absurd (not_out status 4 four (λ e. omega (arith, e)) (λ e. omega (arith, e)) (λ e. omega (arith, e)) (λ e. omega (arith, e)) out)
      | inr (inr twelve) ↦ absurd (not_out status 12 twelve (λ e. omega (arith, e)) (λ e. omega (arith, e)) (λ e. omega (arith, e)) (λ e. omega (arith, e)) out)
    ]
    caused line (ImageFailed is o due complete cut of) out =
        carried o due (neither_stuck status 6 is (λ e. omega (arith, e)) o.ending Complete complete complete_is) (λ zero. complete) (part_front o.image cut.done cut.given)
        (λ e. elim e [ inl zero ↦ absurd (omega (arith, is, zero)) | inr eight ↦ absurd (omega (arith, is, eight)) ]) of

    ran : Ran (ask run.words) run.source run.image run.notes status run.kept → IsDueStatus status → Carried task input status given run.kept
    ran (Usage is none noted unkept) out =
        absurd (not_out status 1 is (λ e. omega (arith, e)) (λ e. omega (arith, e)) (λ e. omega (arith, e)) (λ e. omega (arith, e)) out)
    ran (Done is h) out =
        let d = at (λ t. IsDone t run.source run.image run.notes run.kept) h in
        let all = given_is d.o.image d.given in
        carried d.o d.due (neither_stuck status 0 is (λ e. omega (arith, e)) d.o.ending Complete d.complete complete_is) (λ zero. d.complete) (whole_front d.o.image all) (λ e. all)
        d.kept_is
    ran (NotesFailed is h) out =
        let d = at (λ t. IsUnnoted t run.source run.image run.notes run.kept) h in
        let all = given_is d.o.image d.given in
        carried d.o d.due (neither_stuck status 8 is (λ e. omega (arith, e)) d.o.ending Complete d.complete complete_is) (λ zero. d.complete) (whole_front d.o.image all) (λ e. all)
        d.kept_is
    ran (Stuck is h) out =
        let d = at (λ t. IsReported EndsStuck t run.source run.image run.notes run.kept) h in
        carried d.o d.due (λ five. d.ends, λ ends. is) (λ zero. absurd (omega (arith, is, zero))) (sent_front d.o d.lines d.sent)
        (λ e. elim e [ inl zero ↦ absurd (omega (arith, is, zero)) | inr eight ↦ absurd (omega (arith, is, eight)) ]) d.kept_is
    ran (RaceFound is h) out =
        absurd (not_out status 11 is (λ e. omega (arith, e)) (λ e. omega (arith, e)) (λ e. omega (arith, e)) (λ e. omega (arith, e)) out)
    ran (Refused h) out = let r = at (λ t. IsRefused t run.source run.image run.notes status run.kept) h in caused r.line r.cause out
    ran (NoMemory is noted unkept) out =
        absurd (not_out status 7 is (λ e. omega (arith, e)) (λ e. omega (arith, e)) (λ e. omega (arith, e)) (λ e. omega (arith, e)) out)

    pub carried_out : IsDueStatus status → Carried task input status given run.kept
    carried_out out = ran run.ran out

-- ---- the jobs

abbrev tiles_of : (job : Job) → DrawsOnTiles job → (cluster : Cluster) × (cluster_of job ≡ Some cluster) × (origin_of job ≡ Read Bytes)
tiles_of (Render cluster) draws = (cluster, refl, refl)
tiles_of (Simulate seed cluster) draws = (cluster, refl, refl)
tiles_of job draws = absurd draws

recorded : (job : Job) (draws : DrawsOnTiles job) (work : Work) (o : Outcome) → IsOutcome job work o → IsRecorded (tiles_of job draws).0 work o
unfolding IsOutcome
recorded (Render cluster) draws work o due = due
recorded (Simulate seed cluster) draws work o due = due.recorded
recorded job draws work o due = absurd draws

checked_end : (work : Work) (o : Outcome) → IsOutcome Check work o → o.ending ≡ default_ending work.scene
unfolding IsOutcome
checked_end work o due = ap (λ (a : Outcome). a.ending) due

drawn_image : (work : Work) (o : Outcome) → IsOutcome Serial work o → o.image ≡ p6_texts (default_frames work.scene)
unfolding IsOutcome
drawn_image work o due = ap (λ (a : Outcome). a.image) due

no_race : (stuck : Bool) (v : Verdict) → (if stuck then EndsStuck else found_by v) ≡ Complete → (stuck ≡ false) × (v ≡ verdict.Ordered)
no_race true v e = absurd cc
no_race false verdict.Ordered e = (refl, refl)
no_race false (verdict.Race first second spot) e = absurd cc

-- where nothing races, the default journal orders the scene and leaves nobody waiting
raced_none : ScenesOfOrderedConflictsAreOrdered → (work : Work) (o : Outcome) → IsOutcome Race work o → o.ending ≡ Complete
    → IsOrderedScene work.scene (journal_of work.scene) × (default_ending work.scene ≡ Complete)
unfolding IsOutcome default_ending
raced_none ordered work o due complete = go due where
  go : IsRaced work o → IsOrderedScene work.scene (journal_of work.scene) × (default_ending work.scene ≡ Complete)
  go is =
      let free = no_race (is_stuck (sync_lists_of work.scene) (journal_of work.scene)) is.told (sym (ap (λ (a : Outcome). a.ending) is.due) ∙ complete) in (
        ordered work.scene (journal_of work.scene) (subst (IsVerdictOn work.scene) free.1 is.is),
        ap (λ (b : Bool). if b then EndsStuck else Complete) free.0,
      )

-- ---- what is decided

module _ (bytes : ScenesAreOne) (lists : ListScenesAreOne) (differ : FormsAreApart) (text : OneScene) where
  -- the jobs that read bytes work on one scene
  pub scene_is : (task : Task) → origin_of task.job ≡ Read Bytes → (input : List ℕ) (found : Found) → Spells Bytes input found → (work : Work) → IsInput task input work
      → work.scene ≡ scene_by task.filters (meant found)
  scene_is task reads input found spelled work is =
      ap (λ (w : Work). w.scene) is.is
      ∙ ap (λ (o : Origin). if is_filtered o then scene_by task.filters (meant is.found) else meant is.found) reads
      ∙ ap (λ (f : Found). scene_by task.filters (meant f))
      (one_given bytes lists differ text (Read Bytes) input is.found found (subst (λ (o : Origin). Gives o input is.found) reads is.gives) spelled)

  module _ (foreseen : RecordsAreForeseen) (ordered : ScenesOfOrderedConflictsAreOrdered) (ask : Asking)
      (one : (words : List (String Global)) (a b : Task) → ask words a → ask words b → a ≡ b) (filters : List SpuRule) (input : List ℕ) (found : Found)
      (spelled : Spells Bytes input found) where
    abbrev scene : Scene
    scene = scene_by filters (meant found)

    module _ (job : Job) (draws : DrawsOnTiles job) (status : ℕ) (shown : List ℕ) (kept : Option Record) (c : Carried (task_of filters job) input status shown kept) where
      abbrev cluster : Cluster
      cluster = (tiles_of job draws).0

      same : c.work.scene ≡ scene
      same = scene_is (task_of filters job) (tiles_of job draws).2 input found spelled c.work c.is

      record_is : IsRecorded cluster c.work c.o
      record_is = recorded job draws c.work c.o c.due

      known : (TakesAlone (sync_lists_of c.work.scene) → ending_by c.work.scene record_is.record_kept.journal ≡ default_ending c.work.scene)
          × (IsUncontended (sync_lists_of c.work.scene) → IsOrderedScene c.work.scene (journal_of c.work.scene)
          → ShowsTheSerialImage cluster c.work.scene record_is.record_kept)
      known = foreseen (task_of filters job) cluster input c.work record_is.record_kept (tiles_of job draws).1 c.is record_is.lawful

      ends : TakesAlone (sync_lists_of scene) → c.o.ending ≡ default_ending scene
      ends alone = record_is.ending ∙ known.0 (subst (λ (s : Scene). TakesAlone (sync_lists_of s)) (sym same) alone) ∙ ap default_ending same

      shows : IsUncontended (sync_lists_of scene) → IsOrderedScene scene (journal_of scene) → c.o.image ≡ p6_texts (default_frames scene)
      shows uncontended is =
          record_is.image ∙ known.1 (subst (λ (s : Scene). IsUncontended (sync_lists_of s)) (sym same) uncontended) (subst (λ (s : Scene). IsOrderedScene s (journal_of s)) (sym same) is) ∙ ap (λ (s : Scene). p6_texts (default_frames s)) same

    out_of : (job : Job) → origin_of job ≡ Read Bytes → (status : ℕ) (given : List ℕ) (run : RunOf ask (task_of filters job) input status given) → IsDueStatus status
        → Carried (task_of filters job) input status given run.kept
    out_of job reads status given run out = carried_out ask one (task_of filters job) reads input status given run out

    -- `serial` that ends with 0 writes the frames of the default order
    serial_shows : (drawn : List ℕ) → RunOf ask (task_of filters Serial) input 0 drawn → drawn ≡ p6_texts (default_frames scene)
    serial_shows drawn serial =
        let b = out_of Serial refl 0 drawn serial (inl refl) in
        b.whole (inl refl) ∙ drawn_image b.work b.o b.due
        ∙ ap (λ (s : Scene). p6_texts (default_frames s)) (scene_is (task_of filters Serial) refl input found spelled b.work b.is)

    ends_foreseen : TakesAlone (sync_lists_of scene) → EndsAreForeseen ask filters input
    ends_foreseen alone job status other blank shown draws checked drawn out late =
        let a = out_of Check refl status blank checked out in
        let b = out_of job (tiles_of job draws).2 other shown drawn late in
        let told : a.o.ending ≡ default_ending scene =
        checked_end a.work a.o a.due ∙ ap default_ending (scene_is (task_of filters Check) refl input found spelled a.work a.is) in
        let is = ends job draws other shown drawn.kept b alone in
        (λ five. b.stuck.1 (is ∙ sym told ∙ a.stuck.0 five), λ five. a.stuck.1 (told ∙ sym is ∙ b.stuck.0 five))

    images_foreseen : IsUncontended (sync_lists_of scene) → ImagesAreForeseen ask filters input
    images_foreseen uncontended job status blank drawn shown draws raced serial run out =
        let a = out_of Race refl 0 blank raced (inl refl) in
        let c = out_of job (tiles_of job draws).2 status shown run out in
        let race_scene = scene_is (task_of filters Race) refl input found spelled a.work a.is in
        let none = raced_none ordered a.work a.o a.due (a.done refl) in
        let is_ordered : IsOrderedScene scene (journal_of scene) = subst (λ (s : Scene). IsOrderedScene s (journal_of s)) race_scene none.0 in
        let complete : default_ending scene ≡ Complete = ap default_ending (sym race_scene) ∙ none.1 in
        let image : c.o.image ≡ drawn =
        shows job draws status shown run.kept c uncontended is_ordered ∙ sym (serial_shows drawn serial) in
        let never : status ≢ 5 = λ five. complete_is (sym complete ∙ sym (ends job draws status shown run.kept c uncontended.alone) ∙ c.stuck.0 five) in (
          never,
          subst (IsFront shown) image c.front,
          λ six. elim out [
            | inl zero ↦ c.whole (inl zero) ∙ image
            | inr (inl five) ↦ absurd (never five)
            | inr (inr (inl failed)) ↦ absurd (six failed)
            | inr (inr (inr eight)) ↦ c.whole (inr eight) ∙ image
          ],
        )

  pub shows_foreseen : RecordsAreForeseen → ScenesOfOrderedConflictsAreOrdered → (ask : Asking)
      → ((words : List (String Global)) (a b : Task) → ask words a → ask words b → a ≡ b) → ShowsAreForeseen ask
  shows_foreseen foreseen ordered ask one filters input found spelled =
      (ends_foreseen foreseen ordered ask one filters input found spelled, images_foreseen foreseen ordered ask one filters input found spelled)

  dealt_foreseen : RecordsAreForeseen → ScenesOfOrderedConflictsAreOrdered → (ask : Asking)
      → ((words : List (String Global)) (a b : Task) → ask words a → ask words b → a ≡ b) → DealtShowsAreForeseen ask
  dealt_foreseen foreseen ordered ask one filters dealt single found other spelled single_spelled uncontended blank text raced serial same job status shown drawn
      draws run out again =
      let alike : text ≡ drawn =
      serial_shows foreseen ordered ask one filters single other single_spelled text same
      ∙ sym (serial_shows foreseen ordered ask one filters single other single_spelled drawn again) in
      images_foreseen foreseen ordered ask one filters dealt found spelled uncontended job status blank drawn shown draws raced
      (subst (RunOf ask (task_of filters Serial) dealt 0) alike serial) run out

  pub dealt_before : RecordsAreForeseen → ScenesOfOrderedConflictsAreOrdered → OneReading → OneChain → DealtShowsAreDecidedBefore
  dealt_before foreseen ordered reading chain =
      (dealt_foreseen foreseen ordered AskPlainly (same_task reading), dealt_foreseen foreseen ordered AskFiltered (same_filtered reading chain))

  pub decided_before : RecordsAreForeseen → ScenesOfOrderedConflictsAreOrdered → OneReading → OneChain → ShowsAreDecidedBefore
  decided_before foreseen ordered reading chain =
      (shows_foreseen foreseen ordered AskPlainly (same_task reading), shows_foreseen foreseen ordered AskFiltered (same_filtered reading chain))
