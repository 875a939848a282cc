-- What the steps of a job leave: those before the image, and the job as it was carried out.
use Rattle.std.specs.Prelude.{◌≡◌, ◌≢◌, ℕ, ◌≤◌, ◌⊎◌, List, Option, None, IfErr, IfOk, OnErr}
use Rattle.std.specs.declared.result.Result.{Result}
use Rattle.rc_base.specs.Formats.Limits.{limit_of}
use Rattle.rc_base.specs.Outside.Ends.{Used, use_of}
use Rattle.spu_chain.specs.declared.rule.SpuRule.{SpuRule}
use Rattle.render_core.specs.declared.due.Due.{Due}
use Rattle.run_words.specs.declared.refusal.Refusal.{Refusal}
use Rattle.run_words.specs.declared.refusal.Refused.{Refused}
use Rattle.run_words.specs.declared.job.Job.{Job}
use Rattle.run_words.specs.declared.work.Work.{Work}
use Rattle.run_words.specs.declared.told.Told.{Told}
use Rattle.run_words.specs.Jobs.{Task, Reads, ShowsNothing, origin_of, task_of}
use Rattle.render_core.specs.Outcomes.{IsDue, PartlyWritten}
use Rattle.render_core.specs.Refusals.{outcome_of, IsBlank, IsCaused, IsPerformed, IsRefusedUnwritten, IsWorkOf, IsWritable, LeftAfter, LeftWith}
use Rattle.run_words.specs.Statuses.{refusal_status}
use Rattle.run_words.specs.Asked.{IsWell, HasTiles}

-- the task works on this, which is within the limits, and so are the tiles that the words ask for
pub record IsSoundWork (task : Task) (source : Used) (work : Work) : Type 0 where
  pub is_work : IsWorkOf task source work
  pub well : IsWell (origin_of task.job) work.scene
  pub within : limit_of work.scene ≡ None
  pub tiles : HasTiles task.job work.scene

-- this is due for the task's work and can be written, and nothing is due to the image of a job that shows nothing
pub record IsWritableDue (task : Task) (source : Used) (due : Due) : Type 0 where
  pub is_due : IsDue task source (outcome_of due)
  pub writable : IsWritable due.image
  pub blank : ShowsNothing task.job → IsBlank due.image

-- What holds so was obtained from the source, or the task is refused before its image. The members of the chain have these rules left, and the source
-- stays of a job that makes its scene.
pub record IsObtained {A : Type 0} (task : Task) (source : Used) (left : List SpuRule) (SourceStays : Type 0) (holds : A → Type 0)
    (result : Result A Refusal) : Type 0 where
  pub given : IfOk result holds
  pub refused : IfErr result (IsRefusedUnwritten task source)
  pub members : LeftAfter task source result left
  pub unread : (Reads task.job → ⊥) → SourceStays

-- The task is carried out but for what is left to tell, or it is refused. The image stays where the refusal comes before it, where memory lacked before
-- it was given anything, and where the job shows nothing.
pub record IsCarriedOut (task : Task) (source image : Used) (left : List SpuRule) (SourceStays ImageStays : Type 0) (result : Result Told Refused)
    : Type 0 where
  pub done : IfOk result (IsPerformed task source image)
  pub refused : IfErr result (λ r. IsCaused task source image r.refusal r.kept)
  pub untouched : IfErr result (λ r. refusal_status r.refusal ≢ 6 → refusal_status r.refusal ≢ 7 → ImageStays)
  pub part : OnErr result (ImageStays ⊎ PartlyWritten task source image)
  pub members : LeftWith task source result left
  pub blank : ShowsNothing task.job → ImageStays
  pub unread : (Reads task.job → ⊥) → SourceStays

-- What holds so is obtained for the job behind these rules, of which these are left, where its scene came from the source.
abbrev pub IsWorkBehind : {A : Type 0} → Job → List SpuRule → List SpuRule → Used → (Task → Used → A → Type 0) → Result A Refusal → Type 0
IsWorkBehind job rules left source holds result =
    IsObtained (task_of rules job) source left (Reads job → ⊥) (holds (task_of rules job) source) result

-- ---- over a source and an image

-- what holds so is obtained from the source for the job behind these rules, of which these are left, and no count of refused calls falls
pub record Obtains {A S : Type 0} (source_left : S → Option (List ℕ)) (source_faults : S → ℕ) (job : Job) (rules left : List SpuRule) (source source_now : S)
    (holds : Task → Used → A → Type 0) (result : Result A Refusal) : Type 0 where
  pub obtained : IsObtained (task_of rules job) (use_of source_left source_faults source source_now) left (source_now ≡ source)
      (holds (task_of rules job) (use_of source_left source_faults source source_now)) result
  pub later : source_faults source ≤ source_faults source_now

-- the job behind these rules is carried out from the source to the image
pub record Performs {S K : Type 0} (source_left : S → Option (List ℕ)) (source_faults : S → ℕ) (image_held : K → Option (List ℕ)) (image_faults : K → ℕ)
    (job : Job) (rules left : List SpuRule) (source source_now : S) (image image_now : K) (result : Result Told Refused) : Type 0 where
  pub carried : IsCarriedOut (task_of rules job) (use_of source_left source_faults source source_now) (use_of image_held image_faults image image_now)
      left (source_now ≡ source) (image_now ≡ image) result
  pub later_source : source_faults source ≤ source_faults source_now
  pub later_image : image_faults image ≤ image_faults image_now
