-- From the steps of a job to the job as it was carried out.
use Rattle.std.proofs.Common.{◌≡◌, ◌⊎◌, inl, inr, List, Ok, Err, None}
use Rattle.std.specs.Prelude.{◌≢◌, IfErr, IfOk, OnErr}
use Rattle.std.specs.declared.result.Result.{Result}
use Rattle.rc_base.specs.Outside.Ends.{Used}
use Rattle.spu_chain.specs.declared.rule.SpuRule.{SpuRule}
use Rattle.render_core.specs.declared.due.Due.{Due}
use Rattle.run_words.specs.declared.refusal.DueRefusal.{DueRefusal}
use Rattle.run_words.specs.declared.refusal.Refusal.{Refusal}
use Rattle.run_words.specs.declared.refusal.Refusal.TheVariants.{Undue}
use Rattle.run_words.specs.declared.refusal.Refused.{Refused}
use Rattle.run_words.specs.declared.work.Work.{Work}
use Rattle.run_words.specs.declared.told.Told.{Told}
use Rattle.render_core.specs.Carried.{IsCarriedOut, IsSoundWork, IsObtained, IsWritableDue}
use Rattle.render_core.specs.Due.{IsOutcome}
use Rattle.run_words.specs.Jobs.{Reads, ShowsNothing, Task}
use Rattle.render_core.specs.Outcomes.{PartlyWritten}
use Rattle.render_core.specs.Refusals.{outcome_of, Before, IsBlank, IsCaused, IsEarlyRefusal, IsNoOutcome, IsPerformed, IsRefusedUnwritten, IsWritable}
use Rattle.run_words.specs.Statuses.{refusal_status}
use Rattle.render_core.specs.Scenes.{IsFor}
use Rattle.render_core.proofs.Performing.{caused_by, due_of_work, late_undue, left_by, undue_cause}
use Rattle.render_core.proofs.Works.{seen_behind}

-- a refusal that comes with the image leaves nothing to be said of those before it
never_before : (P : Type 0) (r : Result Told Refused) → IfErr r (λ x. (refusal_status x.refusal ≡ 6) ⊎ (refusal_status x.refusal ≡ 7))
    → IfErr r (λ x. refusal_status x.refusal ≢ 6 → refusal_status x.refusal ≢ 7 → P)
never_before P (Ok told) late = tt
never_before P (Err refused) (inl is) = λ six seven. absurd (six is)
never_before P (Err refused) (inr is) = λ six seven. absurd (seven is)

or_part : (P : Type 0) (task : Task) (source image : Used) (r : Result Told Refused) → OnErr r (PartlyWritten task source image)
    → OnErr r (P ⊎ PartlyWritten task source image)
or_part P task source image (Ok told) h = tt
or_part P task source image (Err refused) h = inr h

module _ (task : Task) (source : Used) (left : List SpuRule) (SourceStays : Type 0) where
  -- a refusal before the filters
  pub before_filters : {A : Type 0} {holds : A → Type 0} (refusal : Refusal) → IsRefusedUnwritten task source refusal → IsEarlyRefusal refusal
      → left ≡ task.filters → ((Reads task.job → ⊥) → SourceStays) → IsObtained task source left SourceStays holds (Err refusal)
  before_filters refusal refused early same unread = record { given = tt; refused = refused; members = Before early same; unread = unread }

  -- what was obtained where the source isn't known to stay
  pub of_source : {A : Type 0} {holds : A → Type 0} (r : Result A Refusal) → IsObtained task source left (Reads task.job → ⊥) holds r
      → ((Reads task.job → ⊥) → SourceStays) → IsObtained task source left SourceStays holds r
  of_source r step unread = record { given = step.given; refused = step.refused; members = step.members; unread = unread }

  module _ (work : Work) (step : IsObtained task source left SourceStays (IsSoundWork task source) (Ok work)) where
    -- of what the task works on this is due
    pub due_behind : (due : Due) → IsFor task.job work.scene → IsOutcome task.job work (outcome_of due) → IsWritable due.image
        → (ShowsNothing task.job → IsBlank due.image) → IsObtained task source left SourceStays (IsWritableDue task source) (Ok due)
    due_behind due suits outcome writable blank = record {
      given = record { is_due = due_of_work task source work step.given.is_work (outcome_of due) suits outcome; writable = writable; blank = blank };
      refused = tt;
      members = step.members;
      unread = step.unread;
    }

    -- or nothing is
    pub undue_behind : (refusal : DueRefusal) → IsNoOutcome task.job work.scene refusal
        → IsObtained task source left SourceStays (IsWritableDue task source) (Err (Undue refusal))
    undue_behind refusal none = record {
      given = tt;
      refused = undue_cause task source work step.given.is_work refusal none;
      members = late_undue task source task.job work.scene refusal none left step.members;
      unread = step.unread;
    }

module _ (task : Task) (source image : Used) (left : List SpuRule) (SourceStays ImageStays : Type 0) where
  -- a job that a step before its image refused
  pub refused_before : {A : Type 0} {holds : A → Type 0} (refusal : Refusal) → IsObtained task source left SourceStays holds (Err refusal)
      → (refused : Refused) → refused.refusal ≡ refusal → refused.kept ≡ None → ImageStays
      → IsCarriedOut task source image left SourceStays ImageStays (Err refused)
  refused_before refusal step refused same none stays = record {
    done = tt;
    refused = caused_by task source image refusal refused same none step.refused;
    untouched = λ six seven. stays;
    part = inl stays;
    members = left_by task source left refusal refused same step.members;
    blank = λ shows. stays;
    unread = step.unread;
  }

  -- a job whose image was given what is due
  pub shown : (due : Due) → IsObtained task source left SourceStays (IsWritableDue task source) (Ok due) → (r : Result Told Refused)
      → IfOk r (IsPerformed task source image) → IfErr r (λ x. IsCaused task source image x.refusal x.kept)
      → OnErr r (PartlyWritten task source image) → (IsBlank due.image → ImageStays)
      → IfErr r (λ x. (refusal_status x.refusal ≡ 6) ⊎ (refusal_status x.refusal ≡ 7))
      → IsCarriedOut task source image left SourceStays ImageStays r
  shown due step r done refused part blank late = record {
    done = done;
    refused = refused;
    untouched = never_before ImageStays r late;
    part = or_part ImageStays task source image r part;
    members = seen_behind task source left step.members r late;
    blank = λ shows. blank (step.given.blank shows);
    unread = step.unread;
  }
