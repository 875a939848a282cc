-- Jobs that start threads.
use Rattle.std.proofs.Common.{◌≡◌, ◌≢◌, ℕ, Bool, true, false, List, [], ◌∷◌, map, inl, inr, Ok, Err, None, Some, refl, sym, ap, ◌∙◌, subst}
use Rattle.std.specs.Prelude.{String, IfErr, IfOk, MatchResult, slice_get, string_bytes, unwrap_or, codes}
use Rattle.std.specs.Global.{Global}
use Rattle.std.specs.declared.option.Option.{Option}
use Rattle.std.specs.declared.result.Result.{Result}
use Rattle.std.specs.List.{flat_map}
use Rattle.std.specs.Str.{bytes_eq}
use Rattle.rc_base.specs.Formats.Limits.{limit_of}
use Rattle.rc_base.specs.Outside.Ends.{Used, TookFront}
use Rattle.command_line.specs.Words.{Setting, job_word, setting_words}
use Rattle.command_line.specs.declared.job.JobName.{JobName}
use Rattle.command_line.specs.declared.job.JobName.TheVariants as name
use Rattle.rc_base.specs.declared.cluster.Tally.{Tally}
use Rattle.rc_base.specs.declared.scene.Scene.{Scene}
use Rattle.rc_base.specs.declared.state.Fault.{Fault}
use Rattle.rc_base.specs.declared.sync.Waiting.{Waiting}
use Rattle.rc_base.specs.declared.window.Layout.{Layout}
use Rattle.shown_frames.specs.Images.{GaveFrontOfRun}
use Rattle.frame_out.specs.Writing.{IsTextWritten}
use Rattle.frame_out.specs.declared.writing.Written.{Written}
use Rattle.order_model.specs.Laws.{SceneListsAreWellFormed, RecordsOfScenesArePermitted}
use Rattle.order_model.specs.Report.{image_text_of}
use Rattle.order_model.specs.Sent.{IsRecordOf}
use Rattle.order_model.specs.declared.record.Record.{Record}
use Rattle.run_record.specs.Told.{IsRun}
use Rattle.run_words.specs.declared.job.Cluster.{Cluster}
use Rattle.run_words.specs.declared.job.Form.TheVariants.{Bytes}
use Rattle.run_words.specs.declared.job.Job.{Job}
use Rattle.run_words.specs.declared.job.Job.TheVariants.{Render, Last, Check, Race, Demo}
use Rattle.run_words.specs.declared.refusal.ImageRefusal.TheVariants as writing
use Rattle.run_words.specs.declared.refusal.Refusal.TheVariants as refusals
use Rattle.run_words.specs.declared.refusal.Refused.{Refused}
use Rattle.run_words.specs.declared.told.Told.{Told}
use Rattle.render_core.specs.Carried.{IsCarriedOut}
use Rattle.render_core.specs.Due.{Outcome, IsRecorded, IsOutcome, ending_by, report_due}
use Rattle.spu_chain.specs.declared.rule.SpuRule.{SpuRule}
use Rattle.run_words.specs.declared.work.Work.{Work}
use Rattle.run_words.specs.Jobs.{IsJob, IsThreaded, NamesThreads, cluster_of, Reads, ShowsNothing, Task, starts_threads, job_in, origin_of, threads_of}
use Rattle.render_core.specs.Scenes.{IsFor}
use Rattle.run_words.specs.Asked.{layout_for, IsWell, IsWellRead}
use Rattle.render_core.specs.Outcomes.{HaveSeenAll, IsDue, PartlyWritten}
use Rattle.run_words.specs.Statuses.{refusal_line, refusal_status}
use Rattle.render_core.specs.Refusals.{Behind, IsCaused, IsPerformed, IsToldOf, IsUntold, IsWorkOf, LeftWith}
use Rattle.frame_out.proofs.Prefixes.{on_err}
use Rattle.render_core.proofs.Performing.{due_of_work, front_of, untold_status, partly_written, told_done, told_late, told_refused}
use Rattle.render_core.proofs.Recorded.{outcome_by, recorded_by}

-- ---- their words

first_word : (words : List (List ℕ)) (job : JobName) (settings : List Setting) → words ≡ job_word job ∷ flat_map setting_words settings
    → slice_get words 0 ≡ Some (job_word job)
first_word words job settings parts = ap (λ (ws : List (List ℕ)). slice_get ws 0) parts

-- a job's first word tells whether it is one
no_word : (w other : List ℕ) → bytes_eq w other ≡ false → bytes_eq other other ≡ true → w ≡ other → ⊥
no_word w other differs own same = let none : false ≡ true = sym differs ∙ (ap (λ (v : List ℕ). bytes_eq v other) same ∙ own) in absurd cc

other_word : (w : List ℕ) → bytes_eq w (codes "render") ≡ false → bytes_eq w (codes "demo") ≡ false → bytes_eq w (codes "last") ≡ false → NamesThreads w → ⊥
other_word w render demo last (inl same) = no_word w (codes "render") render refl same
other_word w render demo last (inr (inl same)) = no_word w (codes "demo") demo refl same
other_word w render demo last (inr (inr same)) = no_word w (codes "last") last refl same

told_by : (job_name : JobName) (settings : List Setting) → NamesThreads (job_word job_name) → starts_threads (job_in job_name settings) ≡ true
told_by name.Render settings same = refl
told_by name.Last settings same = refl
told_by name.Demo settings same = refl
told_by other settings same = absurd (other_word (job_word other) refl refl refl same)

tells : (job_name : JobName) (settings : List Setting) → starts_threads (job_in job_name settings) ≡ true → NamesThreads (job_word job_name)
tells name.Render settings threads = inl refl
tells name.Last settings threads = inr (inr refl)
tells name.Demo settings threads = inr (inl refl)
tells other settings threads = let none : false ≡ true = threads in absurd cc

module _ (words : List (String Global)) (job : Job) (is : IsJob words job) where
  first : slice_get (map string_bytes words) 0 ≡ Some (job_word is.name)
  first = first_word (map string_bytes words) is.name is.settings is.line.parts

  by_word : (word : List ℕ) → slice_get (map string_bytes words) 0 ≡ Some word → job_word is.name ≡ word
  by_word word named = ap (λ (o : Option (List ℕ)). unwrap_or o []) (sym first ∙ named)

  pub threaded : IsThreaded words → starts_threads job ≡ true
  threaded named =
      subst (λ (j : Job). starts_threads j ≡ true) is.asked
      (told_by is.name is.settings (elim named [
        | inl render ↦ inl (by_word (job_word name.Render) render)
        | inr (inl demo) ↦ inr (inl (by_word (job_word name.Demo) demo))
        | inr (inr last) ↦ inr (inr (by_word (job_word name.Last) last))
      ]))

  pub alone : (IsThreaded words → ⊥) → starts_threads job ≡ false
  alone other = go (starts_threads job) refl where
    named : NamesThreads (job_word is.name) → IsThreaded words
    named (inl render) = inl (first ∙ ap (λ (w : List ℕ). Some w) render)
    named (inr (inl demo)) = inr (inl (first ∙ ap (λ (w : List ℕ). Some w) demo))
    named (inr (inr last)) = inr (inr (first ∙ ap (λ (w : List ℕ). Some w) last))

    go : (b : Bool) → starts_threads job ≡ b → b ≡ false
    go true e = absurd (other (named (tells is.name is.settings (ap starts_threads is.asked ∙ e))))
    go false e = refl

pub reads_last : Reads Last
reads_last = (Bytes, refl)

-- one without a cluster draws clients apart
pub draws_apart : (job : Job) → starts_threads job ≡ true → threads_of job ≡ None → job ≡ Last
draws_apart (Render cluster) threads none = absurd cc
draws_apart Last threads none = refl
draws_apart (Demo seed size cluster) threads none = absurd cc
draws_apart job threads none = let no_threads : false ≡ true = threads in absurd cc

-- ---- what is due

the_cluster : (cluster other : Cluster) → Some cluster ≡ Some other → cluster ≡ other
the_cluster cluster other e = ap (λ (o : Option Cluster). unwrap_or o cluster) e

-- its scene is what calls ask for
pub read_or_made : (job : Job) (cluster : Cluster) (scene : Scene) → threads_of job ≡ Some cluster → IsWell (origin_of job) scene → IsWellRead Bytes scene
read_or_made (Render own) cluster scene e well = well
read_or_made (Demo seed size own) cluster scene e well = well.of_bytes
read_or_made job cluster scene e well = absurd cc

-- its cluster is the one that it asks for
pub cluster_asked : (job : Job) (cluster : Cluster) → threads_of job ≡ Some cluster → cluster_of job ≡ Some cluster
cluster_asked (Render own) cluster e = e
cluster_asked (Demo seed size own) cluster e = e
cluster_asked job cluster e = absurd cc

-- its frames are shown
pub shows_frames : (job : Job) (cluster : Cluster) → threads_of job ≡ Some cluster → ShowsNothing job → ⊥
shows_frames Check cluster e shows = absurd cc
shows_frames Race cluster e shows = absurd cc
shows_frames job cluster e shows = shows

-- it is for every scene
threads_suit : (job : Job) (cluster : Cluster) (scene : Scene) → threads_of job ≡ Some cluster → IsFor job scene
threads_suit Last cluster scene e = absurd cc
threads_suit job cluster scene e = tt

outcome_is : (job : Job) (cluster : Cluster) (work : Work) (o : Outcome) → threads_of job ≡ Some cluster → IsRecorded cluster work o → IsOutcome job work o
unfolding IsOutcome
outcome_is (Render own) cluster work o e is = subst (λ (c : Cluster). IsRecorded c work o) (sym (the_cluster own cluster e)) is
outcome_is (Demo seed size own) cluster work o e is = subst (λ (c : Cluster). IsRecorded c work o) (sym (the_cluster own cluster e)) is
outcome_is job cluster work o e is = absurd cc

-- ---- what a run leaves

module _ (task : Task) (cluster : Cluster) (source image : Used) (work : Work) (threads : threads_of task.job ≡ Some cluster) (is_work : IsWorkOf task source work)
    (within : limit_of work.scene ≡ None) (formed : SceneListsAreWellFormed) (permits : RecordsOfScenesArePermitted) (l : Layout) (tiles : l ≡ layout_for cluster work.scene) where
  -- what is due by any lawful record
  due_by : (kept : Record) → IsRecordOf work.scene l kept → IsDue task source (outcome_by cluster work kept)
  due_by kept lawful =
      due_of_work task source work is_work (outcome_by cluster work kept) (threads_suit task.job cluster work.scene threads)
      (outcome_is task.job cluster work (outcome_by cluster work kept) threads
      (recorded_by cluster work formed permits within kept (subst (λ (t : Layout). IsRecordOf work.scene t kept) tiles lawful)))

  -- a front of what a whole run is due is one of what is due
  front_given : GaveFrontOfRun work.scene l image → PartlyWritten task source image
  front_given gave =
      partly_written task source image (outcome_by cluster work gave.kept) (due_by gave.kept gave.lawful)
      (subst (λ (t : Layout). TookFront image (image_text_of work.scene t gave.kept)) tiles gave.front)

  -- a run that lacked memory
  pub short_of_memory : GaveFrontOfRun work.scene l image → (refused : Refused) → refused.refusal ≡ refusals.Image writing.OutOfMemory → (left : List SpuRule)
      → HaveSeenAll task source left → (SourceStays ImageStays : Type 0) → ((Reads task.job → ⊥) → SourceStays)
      → IsCarriedOut task source image left SourceStays ImageStays (Err refused)
  short_of_memory gave refused is left seen SourceStays ImageStays unread = record {
    done = tt;
    refused = inr (ap refusal_status is, ap refusal_line is);
    untouched = λ six seven. absurd (seven (ap refusal_status is));
    part = inr (front_given gave);
    members = Behind (inr (inr (ap refusal_status is))) seen;
    blank = λ shows. absurd (shows_frames task.job cluster threads shows);
    unread = unread;
  }

  module _ (kept : Record) (tallies : List Tally) (waiting : Option Waiting) (faults : List (List (ℕ × Fault))) (written : Written) (is : IsRun work.scene l kept tallies waiting faults)
      (given : IsTextWritten image (image_text_of work.scene l kept) written) where
    here : IsTextWritten image (image_text_of work.scene (layout_for cluster work.scene) kept) written
    here = subst (λ (t : Layout). IsTextWritten image (image_text_of work.scene t kept) written) tiles given

    run_given : PartlyWritten task source image
    run_given =
        partly_written task source image (outcome_by cluster work kept) (due_by kept is.lawful) (front_of image (image_text_of work.scene (layout_for cluster work.scene) kept) written here)

    module _ (r : Result Told Refused) (told : (t : Layout) → IsRun work.scene t kept tallies waiting faults
        → MatchResult r (IsToldOf (report_due work t kept cluster.orders) (ending_by work.scene kept.journal) (Some kept) written) (IsUntold (ending_by work.scene kept.journal) (Some kept) written)) where
      abbrev own : MatchResult r (IsToldOf (report_due work (layout_for cluster work.scene) kept cluster.orders) (ending_by work.scene kept.journal) (Some kept) written)
          (IsUntold (ending_by work.scene kept.journal) (Some kept) written)
      own = told (layout_for cluster work.scene) (subst (λ (t : Layout). IsRun work.scene t kept tallies waiting faults) tiles is)

      run_done : IfOk r (IsPerformed task source image)
      run_done = told_done task source image (outcome_by cluster work kept) (due_by kept is.lawful) written here r own

      run_refused : IfErr r (λ x. IsCaused task source image x.refusal x.kept)
      run_refused = told_refused task source image (outcome_by cluster work kept) (due_by kept is.lawful) written here r own

      run_late : (P : Type 0) → IfErr r (λ x. refusal_status x.refusal ≢ 6 → refusal_status x.refusal ≢ 7 → P)
      run_late P = told_late task source image (outcome_by cluster work kept) (due_by kept is.lawful) written here r own P

      -- its members have seen the whole scene
      run_seen : (left : List SpuRule) → HaveSeenAll task source left → LeftWith task source r left
      run_seen left seen = go r own where
        go : (r : Result Told Refused)
            → MatchResult r (IsToldOf (report_due work (layout_for cluster work.scene) kept cluster.orders) (ending_by work.scene kept.journal) (Some kept) written)
            (IsUntold (ending_by work.scene kept.journal) (Some kept) written) → LeftWith task source r left
        go (Ok told) h = seen
        go (Err refused) h = Behind (elim (untold_status refused h) [ inl seven ↦ inr (inr seven) | inr six ↦ inl six ]) seen

      -- so it is carried out, and it stays open what of its image and its source stays
      pub run_carried : (left : List SpuRule) → HaveSeenAll task source left → (SourceStays ImageStays : Type 0) → ((Reads task.job → ⊥) → SourceStays)
          → IsCarriedOut task source image left SourceStays ImageStays r
      run_carried left seen SourceStays ImageStays unread = record {
        done = run_done;
        refused = run_refused;
        untouched = run_late ImageStays;
        part = on_err r (inr run_given);
        members = run_seen left seen;
        blank = λ shows. absurd (shows_frames task.job cluster threads shows);
        unread = unread;
      }
