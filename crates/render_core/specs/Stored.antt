-- What bytes mean and what a task works on, where the scene is stored in little room.
use Rattle.std.specs.Prelude.{◌≡◌, Bool, true, false, []}
use Rattle.rc_base.specs.Outside.Ends.{Used}
use Rattle.run_words.specs.Jobs.{Task}
use Rattle.run_words.specs.declared.job.Job.{Job}
use Rattle.run_words.specs.declared.job.Job.TheVariants.{Serial, Last, Check, Race, Render}
use Rattle.run_words.specs.declared.work.Work.{Work}
use Rattle.render_core.specs.Carried.{IsSoundWork}
use Rattle.render_core.specs.Due.{work_on}
use Rattle.render_core.specs.declared.work.StoredMeaning.{StoredMeaning}
use Rattle.render_core.specs.declared.work.AnyWork.{AnyWork}
use Rattle.render_core.specs.declared.work.AnyWork.TheVariants as works
use Rattle.render_core.specs.declared.work.Meaning.{Meaning}

-- the job reads its scene into little room
abbrev pub reads_stored : Job → Bool
reads_stored Serial = true
reads_stored Last = true
reads_stored Check = true
reads_stored Race = true
reads_stored (Render cluster) = true
reads_stored _ = false

-- what the bytes mean
abbrev pub meaning_in : StoredMeaning → Meaning
meaning_in x = record { scene = x.scene; faults = x.faults }

-- what the task works on
abbrev pub work_in : AnyWork → Work
work_in (works.Whole work) = work
work_in (works.Stored scene refused) = work_on scene refused []

-- the scene is stored in little room for such a job alone
abbrev pub IsStoredFor : Job → AnyWork → Type 0
IsStoredFor job (works.Whole work) = Unit {0}
IsStoredFor job (works.Stored scene refused) = reads_stored job ≡ true

-- the task works on this, in a form for its job
pub record IsAnySoundWork (task : Task) (source : Used) (work : AnyWork) : Type 0 where
  pub sound : IsSoundWork task source (work_in work)
  pub form : IsStoredFor task.job work
