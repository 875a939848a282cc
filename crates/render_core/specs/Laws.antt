-- Laws on what a job finds in its input, on what is due for a scene, and on the order in which a job is refused.
use Rattle.std.specs.Prelude.{◌≡◌, ℕ, ◌⊎◌, ◌↔◌, false, List, [], Option, Some, None, IfSome, map, string_bytes}
use Rattle.std.specs.declared.string.String.{String}
use Rattle.std.specs.Global.{Global}
use Rattle.call_lists.specs.Scenes.{expanded}
use Rattle.command_line.specs.Filters.{BeginsFilter}
use Rattle.rc_base.specs.Formats.Limits.{limit_of}
use Rattle.rc_base.specs.Orders.Footprints.{IsOrderedScene}
use Rattle.rc_base.specs.Orders.Sync.{sync_lists_of}
use Rattle.rc_base.specs.Outside.Ends.{Used, Failed, IsCalm}
use Rattle.rc_base.specs.declared.list_command.ListCommand.TheVariants.{Plain as PlainCommand}
use Rattle.scene_file.specs.declared.list_scene.ListScene.{ListScene}
use Rattle.order_model.specs.Sent.{IsRecordOf}
use Rattle.order_model.specs.Uncontended.{TakesAlone, IsUncontended}
use Rattle.order_model.specs.declared.record.Record.{Record}
use Rattle.run_words.specs.declared.job.Cluster.{Cluster}
use Rattle.run_words.specs.declared.job.Job.{Job}
use Rattle.run_words.specs.declared.told.Ending.TheVariants.{Complete, Stuck, RaceFound}
use Rattle.render_core.specs.Due.{Outcome, IsOutcome, default_ending, ending_by, journal_of}
use Rattle.render_core.specs.Findings.{Finding, IsFinding, refused_with}
use Rattle.run_words.specs.declared.work.Work.{Work}
use Rattle.run_words.specs.Jobs.{AskFiltered, AskPlainly, ForTask, Task, Reads, cluster_of, has_threads, origin_of}
use Rattle.render_core.specs.Scenes.{IsInput, Lists, Takes, meant, refused_in}
use Rattle.run_words.specs.Asked.{layout_for, IsWell}
use Rattle.render_core.specs.Outcomes.{IsDue, KeepsOrders, Ran, ShowsEveryPermittedOrder, ShowsTheSerialImage}

-- an input is one thing to a task
abbrev pub FindingsAreOne : Type 0
FindingsAreOne = (task : Task) (input : List ℕ) (finding other : Finding) → IsFinding task input finding → IsFinding task input other → finding ≡ other

-- What is due for what is worked on is one thing, where no threads run: of a stepped cluster the picks determine the record.
abbrev pub OneOutcomeIsDue : Type 0
OneOutcomeIsDue =
    (job : Job) (work : Work) (o other : Outcome) → has_threads job ≡ false → IsWell (origin_of job) work.scene → limit_of work.scene ≡ None
    → IsOutcome job work o → IsOutcome job work other → other ≡ o

-- each order that a kept record tells is one that its journal permits
abbrev pub KeptOrdersArePermitted : Type 0
KeptOrdersArePermitted = (job : Job) (work : Work) (o : Outcome) → IsOutcome job work o → IfSome o.kept KeepsOrders

-- A lawful record of a job's ordered scene shows the image of every order that its journal permits; where nobody contends, also that of `serial`.
abbrev pub OrderedRecordsShowOneImage : Type 0
OrderedRecordsShowOneImage =
    (task : Task) (cluster : Cluster) (input : List ℕ) (work : Work) (kept : Record) → cluster_of task.job ≡ Some cluster → IsInput task input work
    → IsRecordOf work.scene (layout_for cluster work.scene) kept → IsOrderedScene work.scene kept.journal
    → ShowsEveryPermittedOrder cluster work.scene kept × (IsUncontended (sync_lists_of work.scene) → ShowsTheSerialImage cluster work.scene kept)

-- Of a job's scene the default journal is enough: where takers are alone a lawful record's journal ends as it does, and where nobody contends and the
-- scene is ordered for the default journal, the record shows the image of `serial`.
abbrev pub RecordsAreForeseen : Type 0
RecordsAreForeseen =
    (task : Task) (cluster : Cluster) (input : List ℕ) (work : Work) (kept : Record) → cluster_of task.job ≡ Some cluster → IsInput task input work
    → IsRecordOf work.scene (layout_for cluster work.scene) kept
    → (TakesAlone (sync_lists_of work.scene) → ending_by work.scene kept.journal ≡ default_ending work.scene)
    × (IsUncontended (sync_lists_of work.scene) → IsOrderedScene work.scene (journal_of work.scene) → ShowsTheSerialImage cluster work.scene kept)

-- The tasks of words without filters are those of words that name filters, where no filter's word comes first.
abbrev pub PlainTasksAreFilteredOnes : Type 0
PlainTasksAreFilteredOnes =
    (words : List (String Global)) (task : Task) → AskPlainly words task ↔ (AskFiltered words task × (BeginsFilter (map string_bytes words) → ⊥))

-- the scene of the expansion: its streams make and call no list
abbrev pub expansion_of : ListScene → ListScene
expansion_of s = record s { streams = map (λ cs. map (λ c. PlainCommand c) (expanded cs)) s.streams }

-- A scene with call lists means what the scene of its expansion means, of which no command is refused before it is issued.
abbrev pub ListScenesMeanTheirExpansions : Type 0
ListScenesMeanTheirExpansions =
    (s : ListScene) → (meant (Lists s) ≡ meant (Lists (expansion_of s))) × (refused_in (Lists (expansion_of s)) ≡ map (λ cs. []) s.streams)

-- The first thing that refused a task, in the order in which a run goes on: the source is read, what was taken of it is judged, the scene is run, the
-- image is written, and then the notes. A status tells what of this came first: all before it went well, whatever comes behind it.
pub data FirstRefusal (task : Task) (source image notes : Used) (status : ℕ) (kept : Option Record) : Type 0 where
  -- the source failed
  Unread : status ≡ 2 → Reads task.job → Failed source → FirstRefusal task source image notes status kept
  -- it was read, and what was taken of it is refused: 3, 4 or 12
  Unfit : (input : List ℕ) (finding : Finding) → Takes (origin_of task.job) source input → IsFinding task input finding → refused_with finding ≡ Some status
      → FirstRefusal task source image notes status kept
  -- a client of the scene waits for ever, whatever became of image and notes
  Waiting : status ≡ 5 → (o : Outcome) → IsDue task source o → o.ending ≡ Stuck → kept ≡ o.kept → FirstRefusal task source image notes status kept
  -- nobody waits, and two commands race, whatever became of the notes
  Racing : status ≡ 11 → (o : Outcome) → IsDue task source o → o.ending ≡ RaceFound → kept ≡ o.kept → FirstRefusal task source image notes status kept
  -- nobody waits, and the image failed, whatever became of the notes
  Unwritten : status ≡ 6 → (o : Outcome) → IsDue task source o → o.ending ≡ Complete → kept ≡ o.kept → Failed image
      → FirstRefusal task source image notes status kept
  -- the image took all, and the notes failed
  Untold : status ≡ 8 → (o : Outcome) → IsDue task source o → o.ending ≡ Complete → kept ≡ o.kept → IsCalm image → Failed notes
      → FirstRefusal task source image notes status kept
  -- nothing did
  Unrefused : status ≡ 0 → (o : Outcome) → IsDue task source o → o.ending ≡ Complete → kept ≡ o.kept → IsCalm image → IsCalm notes
      → FirstRefusal task source image notes status kept

-- What asks for nothing ends with 1, want of memory with 7, and all else with the first thing that refused the task: words, reading, input, run, image,
-- notes. Want of memory alone is free.
abbrev pub ComeInOrder : (Task → Type 0) → Type 0
ComeInOrder asks =
    (source image notes : Used) (status : ℕ) (kept : Option Record) → Ran asks source image notes status kept
    → (status ≡ 7)
    ⊎ (((status ≡ 1) × ((task : Task) → asks task → ⊥)) ⊎ ForTask asks (λ task. FirstRefusal task source image notes status kept))

abbrev pub RefusalsComeInOrder : Type 0
RefusalsComeInOrder = (words : List (String Global)) → ComeInOrder (AskPlainly words) × ComeInOrder (AskFiltered words)
