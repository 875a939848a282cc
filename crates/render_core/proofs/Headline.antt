-- What follows from how a run ended: what the source holds decides it, and the headline.
use Rattle.std.proofs.Common.{◌≡◌, ◌≢◌, ◌↔◌, ℕ, ◌≤◌, ◌⊎◌, inl, inr, List, length, take, None, Some, refl, sym, ap, subst, ◌∙◌, arith}
use Rattle.std.specs.Prelude.{IfSome, unwrap_or}
use Rattle.std.specs.declared.option.Option.{Option}
use Rattle.std.proofs.Math.Seq.{take-length}
use Rattle.order_model.specs.declared.record.Record.{Record}
use Rattle.run_words.specs.declared.job.Cluster.{Cluster}
use Rattle.run_words.specs.declared.job.Job.{Job}
use Rattle.run_words.specs.declared.job.Job.TheVariants.{Render, Simulate, Serial, Last, Check, Race, Demo}
use Rattle.run_words.specs.declared.told.Ending.{Ending}
use Rattle.run_words.specs.declared.told.Ending.TheVariants.{Complete, Stuck as EndsStuck, RaceFound as EndsRaceFound}
use Rattle.render_core.specs.Due.{Outcome, IsRecorded, IsOutcome}
use Rattle.run_words.specs.Statuses.{ending_status}
use Rattle.rc_base.specs.Outside.Ends.{Used, Failed, Took, TookFront}
use Rattle.render_core.specs.Findings.{Finding, Long, Malformed, Outside, Unsuited, Sound, IsFinding, refused_with}
use Rattle.run_words.specs.declared.work.Work.{Work}
use Rattle.run_words.specs.Jobs.{ForTask, Task, cluster_of, origin_of}
use Rattle.render_core.specs.Scenes.{HasWork, Holds}
use Rattle.render_core.specs.Laws.{FindingsAreOne, RecordsAreForeseen, OrderedRecordsShowOneImage}
use Rattle.render_core.specs.Outcomes.{IsDue, Sent, Whole, Front, IsDone, IsUnnoted, IsReported, IsRefused, Cause, SourceFailed, InputRefused, ImageFailed, Ran, Usage, Done, NotesFailed, Stuck, RaceFound, Refused, NoMemory, IsJobDone, RefusesWhatItFinds, CarriesOutWhatItFinds, IsHeadline, KeepsOrders, frames_text}
use Rattle.render_core.proofs.Endings.{found_in_taken, holds_calm, sent_whole, noted_whole}
use Rattle.render_core.proofs.KeptOrders.{keeps_orders}

-- ---- what the source holds decides the status

-- what is found is answered by this status: what is sound is carried out whole
abbrev Answers : Job → Finding → Used → Used → ℕ → Option Record → Type 0
Answers job Long image notes status kept = status ≡ 4
Answers job Malformed image notes status kept = status ≡ 3
Answers job (Outside limit) image notes status kept = status ≡ 4
Answers job (Unsuited name) image notes status kept = status ≡ 12
Answers job (Sound work) image notes status kept = IsJobDone job work image notes status kept

-- what is refused has its status
by_status : (job : Job) (image notes : Used) (status : ℕ) (kept : Option Record) (finding : Finding) → refused_with finding ≡ Some status
    → Answers job finding image notes status kept
by_status job image notes status kept Long e = sym (ap (λ (o : Option ℕ). unwrap_or o 0) e)
by_status job image notes status kept Malformed e = sym (ap (λ (o : Option ℕ). unwrap_or o 0) e)
by_status job image notes status kept (Outside limit) e = sym (ap (λ (o : Option ℕ). unwrap_or o 0) e)
by_status job image notes status kept (Unsuited name) e = sym (ap (λ (o : Option ℕ). unwrap_or o 0) e)
by_status job image notes status kept (Sound work) e = absurd cc

its_status : (job : Job) (image notes : Used) (status : ℕ) (kept : Option Record) (finding : Finding) (refusal : ℕ) → refused_with finding ≡ Some refusal
    → Answers job finding image notes status kept → status ≡ refusal
its_status job image notes status kept Long refusal e is = is ∙ ap (λ (o : Option ℕ). unwrap_or o 0) e
its_status job image notes status kept Malformed refusal e is = is ∙ ap (λ (o : Option ℕ). unwrap_or o 0) e
its_status job image notes status kept (Outside limit) refusal e is = is ∙ ap (λ (o : Option ℕ). unwrap_or o 0) e
its_status job image notes status kept (Unsuited name) refusal e is = is ∙ ap (λ (o : Option ℕ). unwrap_or o 0) e
its_status job image notes status kept (Sound work) refusal e is = absurd cc

module _ (findings : FindingsAreOne) (asks : Task → Type 0) (one : (a b : Task) → asks a → asks b → a ≡ b) (source image notes : Used) (status : ℕ) (kept : Option Record) where
  module _ (task : Task) (input : List ℕ) (finding : Finding) (is_task : asks task) (holds_input : Holds (origin_of task.job) source input)
      (found : IsFinding task input finding) (taken : refused_with finding ≡ None → (Failed image → ⊥) × (Failed notes → ⊥)) where
    at : (holds : Task → Type 0) → ForTask asks holds → holds task
    at holds h = subst holds (one h.0 task h.1 is_task) h.2

    sound : (work : Work) → HasWork task source work → finding ≡ Sound work
    sound work has = findings task has.input finding (Sound work) (found_in_taken task source input has.input holds_input has.took finding found) has.is

    answers : (other : Finding) → finding ≡ other → Answers task.job other image notes status kept → (status ≡ 7) ⊎ Answers task.job finding image notes status kept
    answers other same h = inr (subst (λ (f : Finding). Answers task.job f image notes status kept) (sym same) h)

    refused : (line : List ℕ) → Cause task source image status line kept → (status ≡ 7) ⊎ Answers task.job finding image notes status kept
    refused line (SourceFailed reads is told failed none) = absurd (holds_calm task source input reads holds_input failed)
    refused line (InputRefused judged none) =
        answers judged.judged.finding
        (findings task judged.input finding judged.judged.finding (found_in_taken task source input judged.input holds_input judged.took finding found) judged.judged.is)
        (by_status task.job image notes status kept judged.judged.finding judged.judged.refused)
    refused line (ImageFailed is o due complete cut of) = absurd ((taken (ap refused_with (sound due.work due.has))).0 cut.failed)

    reported : (ending : Ending) → status ≡ ending_status ending → IsReported ending task source image notes kept
        → (status ≡ 7) ⊎ Answers task.job finding image notes status kept
    reported ending is d =
        let same = sound d.due.work d.due.has in
        let calm = taken (ap refused_with same) in
        let sent = sent_whole image d.o d.lines calm.0 d.sent in
        answers (Sound d.due.work) same
        record {
          o = d.o;
          due = d.due.due;
          given = sent.0;
          told = subst (Took notes) sent.1 (noted_whole notes d.lines calm.1 d.noted);
          status_is = is ∙ sym (ap ending_status d.ends);
          kept_is = d.kept_is;
        }

    go : Ran asks source image notes status kept → (status ≡ 7) ⊎ Answers task.job finding image notes status kept
    go (Usage is none told unkept) = absurd (none task is_task)
    go (Done is h) =
        let d = at (λ t. IsDone t source image notes kept) h in
        answers (Sound d.due.work) (sound d.due.work d.due.has)
        record { o = d.o; due = d.due.due; given = d.given; told = d.told; status_is = is ∙ sym (ap ending_status d.complete); kept_is = d.kept_is }
    go (NotesFailed is h) =
        let d = at (λ t. IsUnnoted t source image notes kept) h in absurd ((taken (ap refused_with (sound d.due.work d.due.has))).1 d.failed)
    go (Stuck is h) = reported EndsStuck is (at (λ t. IsReported EndsStuck t source image notes kept) h)
    go (RaceFound is h) = reported EndsRaceFound is (at (λ t. IsReported EndsRaceFound t source image notes kept) h)
    go (Refused h) = let r = at (λ t. IsRefused t source image notes status kept) h in refused r.line r.cause
    go (NoMemory is told unkept) = inl is

  pub refuses : Ran asks source image notes status kept → RefusesWhatItFinds asks source status
  refuses ran task input finding refusal is_task holds_input found is =
      elim (go task input finding is_task holds_input found (λ none. absurd (let no : Some refusal ≡ None = sym is ∙ none in cc)) ran) [
        | inl seven ↦ inl seven
        | inr own ↦ inr (its_status task.job image notes status kept finding refusal is own)
      ]

  pub completes : Ran asks source image notes status kept → CarriesOutWhatItFinds asks source image notes status kept
  completes ran task input work is_task holds_input has image_calm notes_calm = go task input (Sound work) is_task holds_input has (λ sound. (image_calm, notes_calm)) ran

-- ---- the headline

-- what is due with a record is a cluster's
recorded : (job : Job) (work : Work) (o : Outcome) (kept : Record) → Some kept ≡ o.kept → IsOutcome job work o
    → (cluster : Cluster) × (cluster_of job ≡ Some cluster) × IsRecorded cluster work o
unfolding IsOutcome
recorded (Render cluster) work o kept e h = (cluster, refl, h)
recorded (Simulate seed cluster) work o kept e h = (cluster, refl, h.recorded)
recorded Serial work o kept e h = let none : Some kept ≡ None = e ∙ ap (λ (a : Outcome). a.kept) h in absurd cc
recorded Last work o kept e h = let none : Some kept ≡ None = e ∙ ap (λ (a : Outcome). a.kept) h in absurd cc
recorded Check work o kept e h = let none : Some kept ≡ None = e ∙ ap (λ (a : Outcome). a.kept) h in absurd cc
recorded Race work o kept e h = let none : Some kept ≡ None = e ∙ ap (λ (a : Outcome). a.kept) h.due in absurd cc
recorded (Demo seed size cluster) work o kept e h = (cluster, refl, h)
recorded job work o kept e h = let none : Some kept ≡ None = e ∙ ap (λ (a : Outcome). a.kept) h.0 in absurd cc

whole_front : (image : Used) (text : List ℕ) → Took image text → TookFront image text
whole_front image text given = record { done = length text; part = omega arith; given = subst (Took image) (sym (take-length text)) given }

-- a status that isn't that of a client who waits, and an ending that isn't
pub neither_stuck : (status n : ℕ) → status ≡ n → n ≢ 5 → (ending other : Ending) → ending ≡ other → other ≢ EndsStuck → (status ≡ 5) ↔ (ending ≡ EndsStuck)
neither_stuck status n is five ending other ends differs = (λ e. absurd (five (sym is ∙ e)), λ e. absurd (differs (sym ends ∙ e)))

pub complete_is : Complete ≢ EndsStuck
complete_is e = absurd cc

race_is : EndsRaceFound ≢ EndsStuck
race_is e = absurd cc

module _ (shows : OrderedRecordsShowOneImage) (foreseen : RecordsAreForeseen) (asks : Task → Type 0) (source image notes : Used) (status : ℕ) (kept : Record) where
  module _ (task : Task) (is_task : asks task) (o : Outcome) (due : IsDue task source o) (e : Some kept ≡ o.kept) where
    headline_of : TookFront image o.image → ((status ≡ 0) ⊎ (status ≡ 8) → Took image o.image) → (status ≡ 5 → (Failed image → ⊥) → Took image o.image)
        → (status ≡ 5) ↔ (o.ending ≡ EndsStuck) → IsHeadline asks source image status kept
    headline_of front all unfailed stuck = go (recorded task.job due.work o kept e due.due) where
      go : (cluster : Cluster) × (cluster_of task.job ≡ Some cluster) × IsRecorded cluster due.work o → IsHeadline asks source image status kept
      go (cluster, of, is) =
          let same : kept ≡ is.record_kept = ap (λ (k : Option Record). unwrap_or k kept) (e ∙ is.kept) in
          let text : o.image ≡ frames_text cluster due.work.scene is.record_kept = is.image in
          let one = shows task cluster due.has.input due.work is.record_kept of due.has.is is.lawful in
          let known = foreseen task cluster due.has.input due.work is.record_kept of due.has.is is.lawful in
          subst (IsHeadline asks source image status) (sym same)
          (record {
            task = task;
            named = is_task;
            cluster = cluster;
            clustered = of;
            work = due.work;
            has = due.has;
            lawful = is.lawful;
            permitted = keeps_orders cluster due.work o is;
            front =
                subst (λ (t : List ℕ). (n : ℕ) × (n ≤ length t) × Took image (take n t)) text (front.done, front.part, front.given);
            whole = λ h. subst (Took image) text (all h);
            unfailed = λ five calm. subst (Took image) text (unfailed five calm);
            one_image = λ ordered. (one ordered).0;
            serial_image = λ ordered. (one ordered).1;
            same_end = λ alone.
                (λ five. sym (known.0 alone) ∙ sym is.ending ∙ stuck.0 five, λ ends. stuck.1 (is.ending ∙ known.0 alone ∙ ends));
            foreseen_image = known.1;
          })

  not_whole : (n : ℕ) → status ≡ n → n ≢ 0 → n ≢ 8 → (status ≡ 0) ⊎ (status ≡ 8) → ⊥
  not_whole n is zero eight (inl h) = zero (sym is ∙ h)
  not_whole n is zero eight (inr h) = eight (sym is ∙ h)

  sent_front : (o : Outcome) (lines : List ℕ) → Sent image o lines → TookFront image o.image
  sent_front o lines (Whole given calm same) = whole_front image o.image given
  sent_front o lines (Front short cut) = let below = cut.part in record { done = cut.done; part = omega (arith, below); given = cut.given }

  of_cause : (task : Task) → asks task → (line : List ℕ) → Cause task source image status line (Some kept) → IsHeadline asks source image status kept
  of_cause task is_task line (SourceFailed reads is told failed none) = absurd cc
  of_cause task is_task line (InputRefused judged none) = absurd cc
  of_cause task is_task line (ImageFailed is o due complete cut of) =
      let below = cut.part in
      headline_of task is_task o due of (record { done = cut.done; part = omega (arith, below); given = cut.given })
      (λ h. absurd (not_whole 6 is (λ z. omega (arith, z)) (λ z. omega (arith, z)) h)) (λ five. absurd (omega (arith, is, five)))
      (neither_stuck status 6 is (λ e. omega (arith, e)) o.ending Complete complete complete_is)

  of_ran : Ran asks source image notes status (Some kept) → IsHeadline asks source image status kept
  of_ran (Usage is none told unkept) = absurd cc
  of_ran (Done is h) =
      let d = h.2 in
      headline_of h.0 h.1 d.o d.due d.kept_is (whole_front image d.o.image d.given) (λ z. d.given) (λ five. absurd (omega (arith, is, five)))
      (neither_stuck status 0 is (λ e. omega (arith, e)) d.o.ending Complete d.complete complete_is)
  of_ran (NotesFailed is h) =
      let d = h.2 in
      headline_of h.0 h.1 d.o d.due d.kept_is (whole_front image d.o.image d.given) (λ z. d.given) (λ five. absurd (omega (arith, is, five)))
      (neither_stuck status 8 is (λ e. omega (arith, e)) d.o.ending Complete d.complete complete_is)
  of_ran (Stuck is h) =
      let d = h.2 in
      headline_of h.0 h.1 d.o d.due d.kept_is (sent_front d.o d.lines d.sent) (λ z. absurd (not_whole 5 is (λ y. omega (arith, y)) (λ y. omega (arith, y)) z))
      (λ five calm. (sent_whole image d.o d.lines calm d.sent).0) (λ e. d.ends, λ e. is)
  of_ran (RaceFound is h) =
      let d = h.2 in
      headline_of h.0 h.1 d.o d.due d.kept_is (sent_front d.o d.lines d.sent) (λ z. absurd (not_whole 11 is (λ y. omega (arith, y)) (λ y. omega (arith, y)) z))
      (λ five. absurd (omega (arith, is, five))) (neither_stuck status 11 is (λ e. omega (arith, e)) d.o.ending EndsRaceFound d.ends race_is)
  of_ran (Refused h) = of_cause h.0 h.1 h.2.line h.2.cause
  of_ran (NoMemory is told unkept) = absurd cc

module _ (shows : OrderedRecordsShowOneImage) (foreseen : RecordsAreForeseen) (asks : Task → Type 0) (source image notes : Used) (status : ℕ) where
  pub headline : (kept : Option Record) → Ran asks source image notes status kept → IfSome kept (IsHeadline asks source image status)
  headline None ran = tt
  headline (Some kept) ran = of_ran shows foreseen asks source image notes status kept ran

  -- so the orders of a record that is kept are permitted
  pub permits : (kept : Option Record) → Ran asks source image notes status kept → IfSome kept KeepsOrders
  permits None ran = tt
  permits (Some kept) ran = (of_ran shows foreseen asks source image notes status kept ran).permitted
