-- How a run ends that has told what it had to tell.
use Rattle.std.specs.Prelude.{◌≡◌, ℕ, ◌⊎◌, List, MatchResult, None}
use Rattle.std.specs.declared.result.Result.{Result}
use Rattle.std.specs.declared.string.String.{String}
use Rattle.std.specs.Global.{Global}
use Rattle.rc_base.specs.Outside.Ends.{Used, Noted}
use Rattle.run_words.specs.declared.job.Job.{Job}
use Rattle.run_words.specs.declared.refusal.Refused.{Refused}
use Rattle.render_core.specs.declared.run_job.Finish.{Finish}
use Rattle.run_words.specs.declared.told.Told.{Told}
use Rattle.run_words.specs.Jobs.{AskFiltered, Task, IsJob, IsLine}
use Rattle.run_words.specs.Lines.{memory_line, usage_line}
use Rattle.render_core.specs.Refusals.{kept_for}
use Rattle.run_words.specs.Statuses.{IsConcluded, IsRefusalTold}

-- the run ends with this status, without a record, and the notes were given the line
abbrev pub EndsNoting : Used → ℕ → List ℕ → Finish → Type 0
EndsNoting notes status line finish = (finish.status ≡ status) × (finish.kept ≡ None) × Noted notes line

-- The words name no job, or there was no memory for the line that they are.
pub record IsJobless (words : List (String Global)) (notes : Used) (finish : Finish) : Type 0 where
  pub unkept : finish.kept ≡ None
  pub why : ((finish.status ≡ 1) × ((job : Job) → IsJob words job → ⊥) × Noted notes usage_line)
      ⊎ ((finish.status ≡ 7) × IsLine words × Noted notes memory_line)

-- Nothing is asked for, or there was no memory for the line that tells what is.
pub record IsTaskless (asks : Task → Type 0) (notes : Used) (finish : Finish) : Type 0 where
  pub unkept : finish.kept ≡ None
  pub why : ((finish.status ≡ 1) × ((task : Task) → asks task → ⊥) × Noted notes usage_line) ⊎ ((finish.status ≡ 7) × Noted notes memory_line)

-- so it is of words that should be those of filters and of a job
abbrev pub IsUnasked : List (String Global) → Used → Finish → Type 0
IsUnasked words notes finish = IsTaskless (AskFiltered words) notes finish

-- the run ends as its job was carried out or refused
abbrev pub IsFinished : Used → Result Told Refused → Finish → Type 0
IsFinished notes performed finish =
    MatchResult performed
    (λ told. IsConcluded notes told finish.status × (finish.kept ≡ told.kept))
    (λ refused. IsRefusalTold notes refused.refusal finish.status × (finish.kept ≡ kept_for finish.status refused.kept))
