-- From the steps of a task to what it left.
use Rattle.std.proofs.Common.{◌≡◌, ℕ, ◌+◌, ◌≤◌, ◌⊎◌, inl, inr, Bool, true, false, List, [], ◌++◌, length, Ok, Err, None, Some, refl, sym, ap, ◌∙◌, subst, arith}
use Rattle.std.specs.declared.option.Option.{Option}
use Rattle.std.specs.Prelude.{◌==◌, ◌≢◌, IfErr, IfOk, MatchResult, if◌then◌else◌}
use Rattle.std.specs.declared.result.Result.{Result}
use Rattle.std.specs.Io.KnownBytes.{Consumes, IsAtEnd}
use Rattle.std.proofs.Math.Seq.{take-length}
use Rattle.order_model.specs.declared.record.Record.{Record}
use Rattle.rc_base.specs.Outside.Transfer.{byte_limit, IsAnswerFor, IsCountFor}
use Rattle.scene_file.specs.Generator.{generated_scene}
use Rattle.rc_base.specs.declared.scene.Scene.{Scene}
use Rattle.rc_base.specs.declared.transfer.ReadAllFault.{ReadAllFault}
use Rattle.rc_base.specs.declared.transfer.ReadAllFault.TheVariants.{ReadFault, TooLong, OutOfMemory as Unread}
use Rattle.run_words.specs.declared.refusal.DueRefusal.{DueRefusal}
use Rattle.run_words.specs.declared.refusal.DueRefusal.TheVariants as undue
use Rattle.run_words.specs.declared.told.Ending.{Ending}
use Rattle.run_words.specs.declared.told.Ending.TheVariants.{Complete}
use Rattle.run_words.specs.declared.job.Form.{Form}
use Rattle.run_words.specs.declared.job.Job.{Job}
use Rattle.run_words.specs.declared.job.Origin.{Origin}
use Rattle.run_words.specs.declared.job.Origin.TheVariants.{Read, Generated}
use Rattle.run_words.specs.declared.refusal.InputRefusal.{InputRefusal}
use Rattle.run_words.specs.declared.refusal.InputRefusal.TheVariants as judging
use Rattle.run_words.specs.declared.refusal.ImageRefusal.TheVariants as writing
use Rattle.run_words.specs.declared.refusal.Refusal.{Refusal}
use Rattle.run_words.specs.declared.refusal.Refusal.TheVariants.{Reading, Input, Undue, Image}
use Rattle.run_words.specs.declared.refusal.Refused.{Refused}
use Rattle.run_words.specs.declared.told.Told.{Told}
use Rattle.frame_out.specs.Writing.{IsTextWritten}
use Rattle.frame_out.specs.declared.writing.Written.{Written}
use Rattle.render_core.specs.Due.{Outcome, IsOutcome}
use Rattle.rc_base.specs.Outside.Ends.{Used, IsCalm, Took, TookInput, TookFront}
use Rattle.render_core.specs.Findings.{Long}
use Rattle.rc_base.specs.declared.scene.Limit.{Limit}
use Rattle.spu_chain.specs.declared.rule.SpuRule.{SpuRule}
use Rattle.render_core.specs.declared.work.Meaning.{Meaning}
use Rattle.run_words.specs.declared.work.Work.{Work}
use Rattle.run_words.specs.Jobs.{Task, origin_of}
use Rattle.render_core.specs.Scenes.{Plain, meant, rules_for, scene_for, scene_limit, Gives, HasWork, IsFor, IsNotFor, IsUntouched, Takes}
use Rattle.run_words.specs.Asked.{word_limit}
use Rattle.run_words.specs.Lines.{limit_line, image_fault_line}
use Rattle.render_core.specs.Outcomes.{IsDue, PartlyWritten, Sent, Whole, Front, Cause, SourceFailed, InputRefused, ImageFailed, HaveSeenAll}
use Rattle.render_core.specs.Refusals.{IsRead, Came, IsRefusedInput, IsNoOutcome, IsUnmade, IsWorkOf, IsToldOf, IsUntold, IsPerformed, IsCaused, IsEarlyRefusal, IsRefusedFor, IsRefusedUnwritten, LeftBy, Behind, kept_for}
use Rattle.run_words.specs.Statuses.{input_status, input_line, refusal_status, refusal_line}
use Rattle.render_core.proofs.Judging.{judged_by_words, judged_unsuited, has_work}

-- no record is kept where there is none
pub kept_none : (status : ℕ) → kept_for status None ≡ None
kept_none status = go (status == 6) where
  go : (b : Bool) → (let none : Option Record = None in if b then none else None) ≡ None
  go true = refl
  go false = refl

-- a source that was read to its end
pub took_of : (source : Used) (bytes input : List ℕ) → IsCalm source → Consumes source.before source.after bytes → input ≡ bytes → length input ≤ byte_limit
    → IsAtEnd source.after → TookInput source input
took_of source bytes input calm taken is short end =
    record { calm = calm; taken = subst (Consumes source.before source.after) (sym is) taken; most = omega (arith, short); all = λ few. end }

-- of which more was taken than may be
took_too_much : (source : Used) (bytes : List ℕ) → IsCalm source → Consumes source.before source.after bytes → length bytes ≡ byte_limit + 1 → TookInput source bytes
took_too_much source bytes calm taken long =
    record { calm = calm; taken = taken; most = omega (arith, long); all = λ few. absurd (omega (arith, long, few)) }

-- ---- a task whose scene is read

module _ (job : Job) (form : Form) (reads : origin_of job ≡ Read form) (source : Used) where
  reads_too : (task : Task) → task.job ≡ job → origin_of task.job ≡ Read form
  reads_too task own = ap origin_of own ∙ reads

  takes : (task : Task) → task.job ≡ job → (input : List ℕ) → TookInput source input → Takes (origin_of task.job) source input
  takes task own input took = subst (λ (o : Origin). Takes o source input) (sym (reads_too task own)) took

  -- the source wasn't read to its end
  pub reading_cause : (fault : ReadAllFault) (bytes : List ℕ) → Consumes source.before source.after bytes → IsAnswerFor bytes (Err fault)
      → IsCountFor source.faults_before source.faults_after (Err fault) → IsRefusedFor job source (Reading fault)
  reading_cause ReadFault bytes taken answer count task own image =
      inl (SourceFailed (form, reads_too task own) refl refl (record { rose = count.0; once = count.1 }) refl)
  reading_cause (TooLong seen) bytes taken answer count task own image =
      let long = answer.1 in
      inl (InputRefused (record {
        input = bytes;
        took = takes task own bytes (took_too_much source bytes count taken long);
        judged = record { finding = Long; is = omega (arith, long); refused = refl; told = ap (limit_line 1) answer.0 };
      }) refl)
  reading_cause Unread bytes taken answer count task own image = inr (refl, refl)

  module _ (input : List ℕ) (took : TookInput source input) where
    -- its input is refused
    pub input_cause : (refusal : InputRefusal) → IsRefusedInput form input refusal → IsRefusedFor job source (Input refusal)
    input_cause refusal (inl memory) task own image = inr (ap input_status memory, ap input_line memory)
    input_cause refusal (inr judged) task own image =
        inl (InputRefused (record { input = input; took = takes task own input took; judged = judged task (reads_too task own) }) (kept_none (input_status refusal)))

    pub came_of : length input ≤ byte_limit → (x : Meaning) → IsRead form input x → Came job source x
    came_of short x read = record {
      input = input;
      took = subst (λ (o : Origin). Takes o source input) (sym reads) took;
      short = short;
      found = read.found;
      gives = subst (λ (o : Origin). Gives o input read.found) (sym reads) read.spelled;
      within = subst (λ (o : Origin). scene_limit o read.found ≡ None) (sym reads) read.within;
      means = read.means;
    }

-- ---- a task whose scene is made

pub came_made : (job : Job) (seed size : ℕ) → origin_of job ≡ Generated seed size → (source : Used) → IsUntouched source → (x : Meaning)
    → x.scene ≡ generated_scene seed size → x.faults ≡ [] → Came job source x
came_made job seed size makes source untouched x is none = record {
  input = [];
  took = subst (λ (o : Origin). Takes o source []) (sym makes) (refl, untouched);
  short = omega arith;
  found = Plain (generated_scene seed size);
  gives = subst (λ (o : Origin). Gives o [] (Plain (generated_scene seed size))) (sym makes) refl;
  within = subst (λ (o : Origin). scene_limit o (Plain (generated_scene seed size)) ≡ None) (sym makes) refl;
  means = record { scene = is; faults = none };
}

-- ---- its scene, and what it works on

module _ (task : Task) (source : Used) where
  -- the words ask for what is outside its range
  pub words_cause : (x : Meaning) → Came task.job source x → (limit : Limit) → word_limit task.job x.scene ≡ Some limit
      → IsRefusedUnwritten task source (Undue (undue.PastLimit limit))
  words_cause x came limit first image = inl (InputRefused (judged_by_words task source x came limit first) refl)

  module _ (work : Work) (is : IsWorkOf task source work) where
    scene_is : work.scene ≡ scene_for task (meant is.came.found)
    scene_is = ap (λ (w : Work). w.scene) is.is

    -- nothing is due
    pub undue_cause : (refusal : DueRefusal) → IsNoOutcome task.job work.scene refusal → IsRefusedUnwritten task source (Undue refusal)
    undue_cause (undue.PastLimit limit) none image = absurd none
    undue_cause (undue.NotLast name) not image =
        inl (InputRefused (judged_unsuited task source is.meaning_of is.came is.asked name (subst (λ (s : Scene). IsNotFor task.job s name) scene_is not)) refl)
    undue_cause undue.OutOfMemory none image = inr (refl, refl)

    pub has_work_of : IsFor task.job work.scene → HasWork task source work
    has_work_of suits = has_work task source is.meaning_of is.came is.asked work is.is suits

    pub due_of_work : (o : Outcome) → IsFor task.job work.scene → IsOutcome task.job work o → IsDue task source o
    due_of_work o suits due = record { work = work; has = has_work_of suits; due = due }

    -- its members have seen the whole scene
    pub seen_all : (left : List SpuRule) → left ≡ rules_for task (meant is.came.found) → HaveSeenAll task source left
    seen_all left same = record { input = is.came.input; took = is.came.took; found = is.came.found; gives = is.came.gives; rules_are = same }

-- the scene isn't made
module _ (job : Job) (seed size : ℕ) (makes : origin_of job ≡ Generated seed size) (source : Used) (untouched : IsUntouched source) where
  abbrev made : Meaning
  made = record { scene = generated_scene seed size; faults = [] }

  pub unmade_cause : (refusal : DueRefusal) → IsUnmade job (generated_scene seed size) refusal → IsRefusedFor job source (Undue refusal)
  unmade_cause (undue.PastLimit limit) first task own image =
      words_cause task source made (subst (λ (j : Job). Came j source made) (sym own) (came_made job seed size makes source untouched made refl refl)) limit
      (subst (λ (j : Job). word_limit j (generated_scene seed size) ≡ Some limit) (sym own) first) image
  unmade_cause (undue.NotLast name) none task own image = absurd none
  unmade_cause undue.OutOfMemory none task own image = inr (refl, refl)

-- ---- what is refused before the filters

pub early_reading : (fault : ReadAllFault) → IsEarlyRefusal (Reading fault)
early_reading ReadFault = inl (inr (inl refl))
early_reading (TooLong seen) = inl (inr (inr (inr refl)))
early_reading Unread = inr refl

pub early_input : (refusal : InputRefusal) → IsEarlyRefusal (Input refusal)
early_input (judging.MalformedScene kind at) = inl (inr (inr (inl refl)))
early_input (judging.MalformedText kind line) = inl (inr (inr (inl refl)))
early_input (judging.PastLimit limit) = inl (inr (inr (inr refl)))
early_input judging.OutOfMemory = inr refl

pub early_unmade : (job : Job) (scene : Scene) (refusal : DueRefusal) → IsUnmade job scene refusal → IsEarlyRefusal (Undue refusal)
early_unmade job scene (undue.PastLimit limit) is = inl (inr (inr (inr refl)))
early_unmade job scene (undue.NotLast name) is = absurd is
early_unmade job scene undue.OutOfMemory is = inr refl

-- ---- what members have seen behind a refusal

-- of a scene that the job isn't for, all of it
pub late_undue : (task : Task) (source : Used) (job : Job) (scene : Scene) (refusal : DueRefusal) → IsNoOutcome job scene refusal → (left : List SpuRule)
    → HaveSeenAll task source left → LeftBy task source (refusal_status (Undue refusal)) left
late_undue task source job scene (undue.PastLimit limit) none left seen = absurd none
late_undue task source job scene (undue.NotLast name) not left seen = Behind (inr (inl refl)) seen
late_undue task source job scene undue.OutOfMemory none left seen = Behind (inr (inr refl)) seen

-- ---- its image

-- what was written is a front of the text
pub front_of : (image : Used) (text : List ℕ) (written : Written) → IsTextWritten image text written → TookFront image text
front_of image text written (inl whole) =
    record { done = length text; part = omega arith; given = subst (Took image) (sym (take-length text)) whole.1 }
front_of image text written (inr cut) = let below = cut.2 in record { done = written.bytes; part = omega (arith, below); given = cut.3 }

module _ (task : Task) (source image : Used) (o : Outcome) (due : IsDue task source o) where
  pub partly_written : TookFront image o.image → PartlyWritten task source image
  partly_written front = record { o = o; due = due; done = front.done; part = front.part; given = front.given }

  module _ (written : Written) (is : IsTextWritten image o.image written) where
    pub performed_of : (told : Told) → IsToldOf o.notes o.ending o.kept written told → IsPerformed task source image told
    performed_of told of = record { o = o; due = due; sent = record { sent = go is of.lines; ending = of.ending_is; kept = of.kept_is } } where
      go : IsTextWritten image o.image written
          → ((written.fault ≡ false) × (told.lines ≡ o.notes)) ⊎ ((written.fault ≡ true) × (o.ending ≢ Complete) × (told.lines ≡ o.notes ++ image_fault_line written.bytes))
          → Sent image o told.lines
      go (inl whole) (inl plain) = Whole whole.1 whole.2 plain.1
      go (inl whole) (inr cut) = let both : true ≡ false = sym cut.0 ∙ whole.0 in absurd cc
      go (inr part) (inl plain) = let both : true ≡ false = sym part.0 ∙ plain.0 in absurd cc
      go (inr part) (inr cut) =
          Front cut.1
          (record { failed = part.1; done = written.bytes; part = part.2; given = part.3; lines_are = cut.2 })

    pub untold_cause : (refused : Refused) → IsUntold o.ending o.kept written refused → IsCaused task source image refused.refusal refused.kept
    untold_cause refused untold = go is untold.why where
      go : IsTextWritten image o.image written
          → (refused.refusal ≡ Image writing.OutOfMemory) ⊎ ((written.fault ≡ true) × (o.ending ≡ Complete) × (refused.refusal ≡ Image (writing.Fault written.bytes)))
          → IsCaused task source image refused.refusal refused.kept
      go w (inl memory) = inr (ap refusal_status memory, ap refusal_line memory)
      go (inl whole) (inr cut) = let both : true ≡ false = sym cut.0 ∙ whole.0 in absurd cc
      go (inr part) (inr cut) =
          inl (subst (λ (r : Refusal). Cause task source image (refusal_status r) (refusal_line r) (kept_for (refusal_status r) refused.kept)) (sym cut.2)
          (ImageFailed refl o due cut.1 (record { failed = part.1; done = written.bytes; part = part.2; given = part.3; lines_are = refl }) untold.kept_is))

    pub if_untold : (r : Result Told Refused) → IfErr r (IsUntold o.ending o.kept written) → IfErr r (λ x. IsCaused task source image x.refusal x.kept)
    if_untold (Ok told) h = tt
    if_untold (Err refused) h = untold_cause refused h

    pub told_either : (r : Result Told Refused) → IfOk r (IsToldOf o.notes o.ending o.kept written) → IfErr r (IsUntold o.ending o.kept written)
        → MatchResult r (IsToldOf o.notes o.ending o.kept written) (IsUntold o.ending o.kept written)
    told_either (Ok told) h n = h
    told_either (Err refused) h n = n

    module _ (r : Result Told Refused) (told : MatchResult r (IsToldOf o.notes o.ending o.kept written) (IsUntold o.ending o.kept written)) where
      pub told_done : IfOk r (IsPerformed task source image)
      told_done = go r told where
        go : (r : Result Told Refused) → MatchResult r (IsToldOf o.notes o.ending o.kept written) (IsUntold o.ending o.kept written) → IfOk r (IsPerformed task source image)
        go (Ok t) h = performed_of t h
        go (Err refused) h = tt

      pub told_refused : IfErr r (λ x. IsCaused task source image x.refusal x.kept)
      told_refused = go r told where
        go : (r : Result Told Refused) → MatchResult r (IsToldOf o.notes o.ending o.kept written) (IsUntold o.ending o.kept written)
            → IfErr r (λ x. IsCaused task source image x.refusal x.kept)
        go (Ok t) h = tt
        go (Err refused) h = untold_cause refused h

      -- nothing is to be said of refusals before the image
      pub told_late : (P : Type 0) → IfErr r (λ x. refusal_status x.refusal ≢ 6 → refusal_status x.refusal ≢ 7 → P)
      told_late P = go r told where
        go : (r : Result Told Refused) → MatchResult r (IsToldOf o.notes o.ending o.kept written) (IsUntold o.ending o.kept written)
            → IfErr r (λ x. refusal_status x.refusal ≢ 6 → refusal_status x.refusal ≢ 7 → P)
        go (Ok t) h = tt
        go (Err refused) h = λ six seven. elim h.why [ inl memory ↦ absurd (seven (ap refusal_status memory)) | inr cut ↦ absurd (six (ap refusal_status cut.2)) ]

-- the statuses of what isn't told
pub untold_status : {ending : Ending} {kept : Option Record} {written : Written} (refused : Refused) → IsUntold ending kept written refused
    → (refusal_status refused.refusal ≡ 7) ⊎ (refusal_status refused.refusal ≡ 6)
untold_status refused untold = elim untold.why [ inl memory ↦ inl (ap refusal_status memory) | inr cut ↦ inr (ap refusal_status cut.2) ]

pub late_untold : (ending : Ending) (kept : Option Record) (written : Written) (r : Result Told Refused) → IfErr r (IsUntold ending kept written)
    → IfErr r (λ x. (refusal_status x.refusal ≡ 6) ⊎ (refusal_status x.refusal ≡ 7))
late_untold ending kept written (Ok told) h = tt
late_untold ending kept written (Err refused) h = elim (untold_status refused h) [ inl seven ↦ inr seven | inr six ↦ inl six ]

-- a refusal before the image, as that of its step
pub caused_by : (task : Task) (source image : Used) (refusal : Refusal) (refused : Refused) → refused.refusal ≡ refusal → refused.kept ≡ None
    → IsRefusedUnwritten task source refusal → IsCaused task source image refused.refusal refused.kept
caused_by task source image refusal refused same none h =
    subst (λ (k : Option Record). IsCaused task source image refused.refusal k) (sym none)
    (subst (λ (r : Refusal). IsCaused task source image r None) (sym same) (h image))

-- of a job, as that of its task
pub for_task : (task : Task) (source : Used) (refusal : Refusal) → IsRefusedFor task.job source refusal → IsRefusedUnwritten task source refusal
for_task task source refusal h = h task refl

-- what a refusal leaves of members, as that of its step
pub left_by : (task : Task) (source : Used) (left : List SpuRule) (refusal : Refusal) (refused : Refused) → refused.refusal ≡ refusal
    → LeftBy task source (refusal_status refusal) left → LeftBy task source (refusal_status refused.refusal) left
left_by task source left refusal refused same h = subst (λ (r : Refusal). LeftBy task source (refusal_status r) left) (sym same) h
