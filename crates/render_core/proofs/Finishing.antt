-- How a run ends whose task was carried out or refused so, and how one ends that has none.
use Rattle.std.proofs.Common.{◌≡◌, ◌≢◌, ℕ, ◌⊎◌, inl, inr, Bool, true, false, List, [], Ok, Err, refl, sym, ap, subst, ◌∙◌, arith}
use Rattle.std.specs.Prelude.{String, IfErr, IfOk, OnErr, if◌then◌else◌}
use Rattle.std.specs.Global.{Global}
use Rattle.std.specs.declared.result.Result.{Result}
use Rattle.rc_base.specs.Outside.Ends.{Used}
use Rattle.rc_base.specs.declared.transfer.ReadAllFault.TheVariants.{ReadFault, TooLong, OutOfMemory as Unread}
use Rattle.run_words.specs.declared.refusal.DueRefusal.TheVariants as undue
use Rattle.run_words.specs.declared.told.Ending.TheVariants.{Complete, Stuck, RaceFound}
use Rattle.run_words.specs.declared.job.Job.{Job}
use Rattle.run_words.specs.declared.job.Job.TheVariants.{Render, Simulate, Serial, Last, Check, Race, Demo}
use Rattle.run_words.specs.declared.refusal.ImageRefusal.TheVariants as writing
use Rattle.run_words.specs.declared.refusal.InputRefusal.TheVariants as judging
use Rattle.run_words.specs.declared.refusal.Refusal.{Refusal}
use Rattle.run_words.specs.declared.refusal.Refusal.TheVariants.{Reading, Input, Undue, Image}
use Rattle.run_words.specs.declared.refusal.Refused.{Refused}
use Rattle.render_core.specs.declared.run_job.Finish.{Finish}
use Rattle.run_words.specs.declared.told.Told.{Told}
use Rattle.render_core.specs.Finishes.{IsFinished, IsJobless, IsTaskless}
use Rattle.render_core.specs.Due.{Outcome, IsOutcome, default_ending}
use Rattle.spu_chain.specs.declared.rule.SpuRule.{SpuRule}
use Rattle.run_words.specs.declared.work.Work.{Work}
use Rattle.run_words.specs.Jobs.{AskWith, ForTask, IsLine, ShowsNothing, Task}
use Rattle.render_core.specs.Outcomes.{HasNotes, IsEarly, IsLate, IsUnwritten, NoMemory, Ran, Usage, LeavesMembers, Ungiven, Given, Broken}
use Rattle.run_words.specs.Statuses.{refusal_status, IsConcluded, IsRefusalTold}
use Rattle.render_core.specs.Refusals.{IsCaused, IsPerformed, LeftBy, LeftWith, Before, Behind, Amid}
use Rattle.render_core.proofs.Endings.{cases_nil, ran_refused, ran_told, some_told}

-- ---- statuses

-- a job that is carried out has one of these, and that of a race where one was found
told_status : (notes : Used) (told : Told) (status : ℕ) → IsConcluded notes told status
    → (status ≡ 0) ⊎ ((status ≡ 8) ⊎ ((status ≡ 5) ⊎ ((status ≡ 11) × (told.ending ≡ RaceFound))))
told_status notes told status (inl done) = inl done.0
told_status notes told status (inr (inl unnoted)) = inr (inl unnoted.0)
told_status notes told status (inr (inr (inl stuck))) = inr (inr (inl stuck.0))
told_status notes told status (inr (inr (inr raced))) = inr (inr (inr (raced.0, raced.1)))

-- so its members have seen all
told_late : (notes : Used) (told : Told) (status : ℕ) → IsConcluded notes told status → IsLate status
told_late notes told status (inl done) = inl done.0
told_late notes told status (inr (inl unnoted)) = inr (inr (inr (inl unnoted.0)))
told_late notes told status (inr (inr (inl stuck))) = inr (inl stuck.0)
told_late notes told status (inr (inr (inr raced))) = inr (inr (inr (inr (inl raced.0))))

not_seven : (notes : Used) (told : Told) (status : ℕ) → IsConcluded notes told status → status ≡ 7 → ⊥
not_seven notes told status (inl done) seven = let is = done.0 in omega (arith, is, seven)
not_seven notes told status (inr (inl unnoted)) seven = let is = unnoted.0 in omega (arith, is, seven)
not_seven notes told status (inr (inr (inl stuck))) seven = let is = stuck.0 in omega (arith, is, seven)
not_seven notes told status (inr (inr (inr raced))) seven = let is = raced.0 in omega (arith, is, seven)

refused_status : (notes : Used) (refusal : Refusal) (status : ℕ) → IsRefusalTold notes refusal status → (status ≡ refusal_status refusal) ⊎ (status ≡ 7)
refused_status notes refusal status told = elim told.one_of [ inl own ↦ inl own.0 | inr memory ↦ inr memory.0 ]

-- no refusal has the status of a job that is done
never_done : (refusal : Refusal) → refusal_status refusal ≡ 0 → ⊥
never_done (Reading ReadFault) e = omega (arith, e)
never_done (Reading (TooLong seen)) e = omega (arith, e)
never_done (Reading Unread) e = omega (arith, e)
never_done (Input (judging.MalformedScene kind at)) e = omega (arith, e)
never_done (Input (judging.MalformedText kind line)) e = omega (arith, e)
never_done (Input (judging.PastLimit limit)) e = omega (arith, e)
never_done (Input judging.OutOfMemory) e = omega (arith, e)
never_done (Undue (undue.PastLimit limit)) e = omega (arith, e)
never_done (Undue (undue.NotLast name)) e = omega (arith, e)
never_done (Undue undue.OutOfMemory) e = omega (arith, e)
never_done (Image (writing.Fault done)) e = omega (arith, e)
never_done (Image writing.OutOfMemory) e = omega (arith, e)

-- ---- races are found for the job that asks for them

ends_by : (b : Bool) → (if b then Stuck else Complete) ≡ RaceFound → ⊥
ends_by true e = absurd cc
ends_by false e = absurd cc

asked_for_races : (job : Job) (work : Work) (o : Outcome) → IsOutcome job work o → o.ending ≡ RaceFound → ShowsNothing job
unfolding IsOutcome default_ending
asked_for_races (Render cluster) work o due raced = absurd (ends_by _ (sym due.ending ∙ raced))
asked_for_races (Simulate seed cluster) work o due raced = absurd (ends_by _ (sym due.recorded.ending ∙ raced))
asked_for_races Serial work o due raced = absurd (ends_by _ (sym (ap (λ (a : Outcome). a.ending) due) ∙ raced))
asked_for_races Last work o due raced = absurd (ends_by _ (sym (ap (λ (a : Outcome). a.ending) due) ∙ raced))
asked_for_races Check work o due raced = tt
asked_for_races Race work o due raced = tt
asked_for_races (Demo seed size cluster) work o due raced = absurd (ends_by _ (sym due.ending ∙ raced))
asked_for_races job work o due raced = let none : Complete ≡ RaceFound = sym (ap (λ (a : Outcome). a.ending) due.0) ∙ raced in absurd cc

-- ---- a run without a task

-- words that name no job ask for nothing
pub taskless : (words : List (String Global)) (rules : List SpuRule) (notes : Used) (f : Finish) → IsJobless words notes f → IsTaskless (AskWith rules words) notes f
taskless words rules notes f none = record {
  unkept = none.unkept;
  why = elim none.why [ inl usage ↦ inl (usage.0, (λ task asked. usage.1 task.job asked.1), usage.2) | inr memory ↦ inr (memory.0, memory.2) ];
}

pub jobless_usage : (words : List (String Global)) (notes : Used) (f : Finish) → IsJobless words notes f → (IsLine words → ⊥) → f.status ≡ 1
jobless_usage words notes f none other = elim none.why [ inl usage ↦ usage.0 | inr memory ↦ absurd (other memory.1) ]

module _ (asks : Task → Type 0) (notes : Used) (f : Finish) (none : IsTaskless asks notes f) where
  pub unasked : (source image : Used) → Ran asks source image notes f.status f.kept
  unasked source image = elim none.why [ inl usage ↦ Usage usage.0 usage.1 usage.2 none.unkept | inr memory ↦ NoMemory memory.0 memory.1 none.unkept ]

  pub unasked_done : f.status ≡ 0 → ⊥
  unasked_done zero = elim none.why [ inl usage ↦ (let e = usage.0 in omega (arith, e, zero)) | inr memory ↦ (let e = memory.0 in omega (arith, e, zero)) ]

  pub unasked_members : (source : Used) (rules : List SpuRule) → LeavesMembers asks source f.status rules rules
  unasked_members source rules = Ungiven (elim none.why [ inl usage ↦ inl (inl usage.0) | inr memory ↦ inr memory.0 ]) refl

-- ---- a run with one

module _ (asks : Task → Type 0) (task : Task) (is : asks task) (source image notes : Used) (f : Finish) where
  pub ran_by : (p : Result Told Refused) → IsFinished notes p f → IfOk p (IsPerformed task source image) → IfErr p (λ r. IsCaused task source image r.refusal r.kept)
      → Ran asks source image notes f.status f.kept
  ran_by (Ok told) finished done caused =
      subst (Ran asks source image notes f.status) (sym finished.1) (ran_told asks source image notes task is told done f.status finished.0)
  ran_by (Err r) finished done caused =
      subst (Ran asks source image notes f.status) (sym finished.1) (ran_refused asks source image notes task is r.refusal f.status r.kept caused finished.0)

  -- what refusals before the image left alone
  pub unwritten_by : {P : Type 0} (p : Result Told Refused) → IsFinished notes p f → IfOk p (IsPerformed task source image) → (ShowsNothing task.job → P)
      → IfErr p (λ r. refusal_status r.refusal ≢ 6 → refusal_status r.refusal ≢ 7 → P) → IsUnwritten f.status → P
  unwritten_by (Ok told) finished done blank left free =
      elim (told_status notes told f.status finished.0) [
        | inl done ↦ absurd (free.0 done)
        | inr (inl unnoted) ↦ absurd (free.4 unnoted)
        | inr (inr (inl stuck)) ↦ absurd (free.1 stuck)
        | inr (inr (inr raced)) ↦ blank (asked_for_races task.job done.due.work done.o done.due.due (sym done.sent.ending ∙ raced.1))
      ]
  unwritten_by (Err r) finished done blank left free =
      elim (refused_status notes r.refusal f.status finished.0) [ inl own ↦ left (λ six. free.2 (own ∙ six)) (λ seven. free.3 (own ∙ seven)) | inr seven ↦ absurd (free.3 seven) ]

  -- what is left of the image where there was no memory
  pub left_by : {P : Type 0} (Q : Task → Type 0) (p : Result Told Refused) → IsFinished notes p f → OnErr p (P ⊎ Q task) → f.status ≡ 7 → P ⊎ ForTask asks Q
  left_by Q (Ok told) finished front seven =
      absurd (not_seven notes told f.status finished.0 seven)
  left_by Q (Err r) finished front seven = elim front [ inl same ↦ inl same | inr part ↦ inr (task, is, part) ]

  -- notes to which nothing is due
  pub silent_by : {P : Type 0} (p : Result Told Refused) → IsFinished notes p f → IfOk p (IsPerformed task source image) → IfOk p (λ told. told.lines ≡ [] → P)
      → f.status ≡ 0 → P ⊎ HasNotes asks source image notes f.kept
  silent_by (Ok told) finished done quiet zero = elim (cases_nil told.lines) [
    | inl none ↦ inl (quiet none)
    | inr some ↦ inr (subst (HasNotes asks source image notes) (sym finished.1) (some_told asks source image notes task is told done f.status finished.0 zero some))
  ]
  silent_by (Err r) finished done quiet zero =
      elim (refused_status notes r.refusal f.status finished.0) [ inl own ↦ absurd (never_done r.refusal (sym own ∙ zero)) | inr seven ↦ absurd (omega (arith, seven, zero)) ]

  -- what is left of a chain's members
  pub members_by : (p : Result Told Refused) (left : List SpuRule) → IsFinished notes p f → LeftWith task source p left
      → LeavesMembers asks source f.status task.filters left
  members_by (Ok told) left finished seen = Given (inl (told_late notes told f.status finished.0)) (task, is, seen)
  members_by (Err r) left finished by = elim (refused_status notes r.refusal f.status finished.0) [
    | inl own ↦ by_own own by
    | inr seven ↦ by_seven seven by
  ] where
    by_own : f.status ≡ refusal_status r.refusal → LeftBy task source (refusal_status r.refusal) left → LeavesMembers asks source f.status task.filters left
    by_own own (Before early same) = Ungiven (subst (λ (n : ℕ). IsEarly n ⊎ (n ≡ 7)) (sym own) early) same
    by_own own (Behind (inl six) seen) = Given (inl (inr (inr (inl (own ∙ six))))) (task, is, seen)
    by_own own (Behind (inr (inl twelve)) seen) = Given (inl (inr (inr (inr (inr (inr (own ∙ twelve))))))) (task, is, seen)
    by_own own (Behind (inr (inr seven)) seen) = Given (inr (own ∙ seven)) (task, is, seen)
    by_own own (Amid seven seen) = Broken (own ∙ seven) (task, is, seen)

    by_seven : f.status ≡ 7 → LeftBy task source (refusal_status r.refusal) left → LeavesMembers asks source f.status task.filters left
    by_seven seven (Before early same) = Ungiven (inr seven) same
    by_seven seven (Behind late seen) = Given (inr seven) (task, is, seen)
    by_seven seven (Amid own seen) = Broken seven (task, is, seen)
