-- What a finished run left: each fact that the calls which run a line of words tell of it.
use Rattle.std.proofs.Common.{◌≡◌, ◌⊎◌, inl, [], List, subst}
use Rattle.std.specs.Prelude.{ℕ, Option, IfOk, IfSome}
use Rattle.std.specs.declared.result.Result.{Result}
use Rattle.rc_base.specs.Outside.Ends.{Used, use_of}
use Rattle.spu_chain.specs.declared.rule.SpuRule.{SpuRule}
use Rattle.run_words.specs.declared.refusal.Refused.{Refused}
use Rattle.render_core.specs.declared.run_job.Finish.{Finish}
use Rattle.run_words.specs.declared.told.Told.{Told}
use Rattle.render_core.specs.Carried.{IsCarriedOut}
use Rattle.render_core.specs.Finishes.{IsFinished, IsTaskless}
use Rattle.run_words.specs.Jobs.{ForTask, Reads, ShowsNothing, Task}
use Rattle.render_core.specs.Laws.{FindingsAreOne, RecordsAreForeseen, OrderedRecordsShowOneImage}
use Rattle.render_core.specs.Outcomes.{Ran, RefusesWhatItFinds, CarriesOutWhatItFinds, IsHeadline, KeepsOrders, IsUnwritten, IsLeft, HasNotes, LeavesMembers, PartlyWritten}
use Rattle.render_core.proofs.Finishing.{left_by, members_by, ran_by, silent_by, unasked, unasked_done, unasked_members, unwritten_by}
use Rattle.render_core.proofs.Headline.{completes, headline, permits, refuses}

pub record IsEnded (asks : Task → Type 0) (source image notes : Used) (SourceStays ImageStays NotesStay : Type 0) (rules left : List SpuRule)
    (f : Finish) : Type 0 where
  pub headline : IfSome f.kept (IsHeadline asks source image f.status)
  pub ran : Ran asks source image notes f.status f.kept
  pub refuses : RefusesWhatItFinds asks source f.status
  pub completes : CarriesOutWhatItFinds asks source image notes f.status f.kept
  pub permitted : IfSome f.kept KeepsOrders
  pub unread : ((task : Task) → asks task → Reads task.job → ⊥) → SourceStays
  pub untouched : IsUnwritten f.status → ImageStays
  pub blank : ForTask asks (λ task. ShowsNothing task.job) → ImageStays
  pub memory : f.status ≡ 7 → ImageStays ⊎ IsLeft asks source image
  pub silent : f.status ≡ 0 → NotesStay ⊎ HasNotes asks source image notes f.kept
  pub members : LeavesMembers asks source f.status rules left

module _ (findings : FindingsAreOne) (shows : OrderedRecordsShowOneImage) (foreseen : RecordsAreForeseen) (asks : Task → Type 0)
    (one : (a b : Task) → asks a → asks b → a ≡ b) (source image : Used) (SourceStays ImageStays : Type 0) (f : Finish) where
  -- a run whose words ask for nothing, or lacked memory for it
  pub unasked_ended : (notes : Used) (NotesStay : Type 0) (rules : List SpuRule) → IsTaskless asks notes f → SourceStays → ImageStays
      → IsEnded asks source image notes SourceStays ImageStays NotesStay rules rules f
  unasked_ended notes NotesStay rules none unread unwritten =
      let ran = unasked asks notes f none source image in
      record {
        headline = headline shows foreseen asks source image notes f.status f.kept ran;
        ran = ran;
        refuses = refuses findings asks one source image notes f.status f.kept ran;
        completes = completes findings asks one source image notes f.status f.kept ran;
        permitted = permits shows foreseen asks source image notes f.status f.kept ran;
        unread = λ none. unread;
        untouched = λ free. unwritten;
        blank = λ shown. unwritten;
        memory = λ seven. inl unwritten;
        silent = λ zero. absurd (unasked_done asks notes f none zero);
        members = unasked_members asks notes f none source rules;
      }

  -- one whose task was carried out or refused so, by the notes since it was known
  pub task_ended : {End : Type 0} (held : End → Option (List ℕ)) (faults : End → ℕ) (old begun new : End) → begun ≡ old → (task : Task) → asks task
      → (left : List SpuRule) (p : Result Told Refused) → IsCarriedOut task source image left SourceStays ImageStays p
      → IsFinished (use_of held faults begun new) p f → IfOk p (λ told. told.lines ≡ [] → new ≡ begun)
      → IsEnded asks source image (use_of held faults old new) SourceStays ImageStays (new ≡ old) task.filters left f
  task_ended held faults old begun new same task is left p carried told quiet =
      let notes = use_of held faults old new in
      let finished = subst (λ n. IsFinished (use_of held faults n new) p f) same told in
      let silent = subst (λ n. IfOk p (λ told. told.lines ≡ [] → new ≡ n)) same quiet in
      let ran = ran_by asks task is source image notes f p finished carried.done carried.refused in
      record {
        headline = headline shows foreseen asks source image notes f.status f.kept ran;
        ran = ran;
        refuses = refuses findings asks one source image notes f.status f.kept ran;
        completes = completes findings asks one source image notes f.status f.kept ran;
        permitted = permits shows foreseen asks source image notes f.status f.kept ran;
        unread = λ none. carried.unread (none task is);
        untouched = unwritten_by asks task is source image notes f p finished carried.done carried.blank carried.untouched;
        blank = λ shown. carried.blank (subst (λ (t : Task). ShowsNothing t.job) (one shown.0 task shown.1 is) shown.2);
        memory = left_by asks task is source image notes f (λ t. PartlyWritten t source image) p finished carried.part;
        silent = silent_by asks task is source image notes f p finished carried.done silent;
        members = members_by asks task is source image notes f p left finished carried.members;
      }
