-- How a run may end: what each status says of the words, of the bytes of the source, and of what the image and the notes were given.
use Rattle.std.specs.Prelude.{◌≡◌, ◌≢◌, ℕ, ◌<◌, ◌≤◌, ◌⊎◌, ◌↔◌, true, List, [], ◌++◌, length, take, Option, Some, None}
use Rattle.std.specs.List.{flat_map}
use Rattle.rc_base.specs.Drawing.Images.{frame_image, frame_images}
use Rattle.rc_base.specs.Formats.Netpbm.{p6_texts}
use Rattle.rc_base.specs.Orders.Footprints.{IsOrderedScene}
use Rattle.rc_base.specs.Orders.Order.{IsPermitted}
use Rattle.rc_base.specs.Orders.Sync.{sync_lists_of}
use Rattle.rc_base.specs.declared.scene.Scene.{Scene}
use Rattle.rc_base.specs.declared.sync.Name.{Name}
use Rattle.order_model.specs.Report.{frame_count, image_text_of, recorded_frame, tile_order}
use Rattle.order_model.specs.Sent.{IsRecordOf}
use Rattle.order_model.specs.Uncontended.{TakesAlone, IsUncontended}
use Rattle.order_model.specs.declared.record.Record.{Record}
use Rattle.run_words.specs.declared.job.Cluster.{Cluster}
use Rattle.run_words.specs.declared.job.Job.{Job}
use Rattle.run_words.specs.declared.told.Ending.{Ending}
use Rattle.run_words.specs.declared.told.Ending.TheVariants.{Complete, Stuck as EndsStuck, RaceFound as EndsRaceFound}
use Rattle.render_core.specs.Due.{Outcome, IsOutcome, default_ending, default_frames, journal_of}
use Rattle.run_words.specs.Statuses.{ending_status}
use Rattle.rc_base.specs.Outside.Ends.{Used, Failed, IsCalm, Took, Noted}
use Rattle.render_core.specs.Findings.{Finding, IsFinding, Judged, refused_with}
use Rattle.run_words.specs.declared.work.Work.{Work}
use Rattle.run_words.specs.Jobs.{Task, ForTask, Reads, cluster_of, origin_of}
use Rattle.render_core.specs.Scenes.{Found, Gives, Holds, HasWork, IsInput, Takes, is_filtered, meant, rules_for}
use Rattle.run_words.specs.Asked.{layout_for}
use Rattle.spu_chain.specs.Filter.{AreReached}
use Rattle.spu_chain.specs.declared.rule.SpuRule.{SpuRule}
use Rattle.run_words.specs.Lines.{image_fault_line, usage_line, read_fault_line, memory_line}

-- ---- what a task left of its source and of its image

-- this is due for the task's work
pub record IsDue (task : Task) (source : Used) (o : Outcome) : Type 0 where
  pub work : Work
  pub has : HasWork task source work
  pub due : IsOutcome task.job work o

-- the image failed when it had taken so many bytes of what is due, which is told behind these lines
pub record CutOff (image : Used) (o : Outcome) (front lines : List ℕ) : Type 0 where
  pub failed : Failed image
  pub done : ℕ
  pub part : done < length o.image
  pub given : Took image (take done o.image)
  pub lines_are : lines ≡ front ++ image_fault_line done

-- The image was given a front of what is due, which may be the whole. Where memory lacks in a cluster on threads, whose frames are written while its actors
-- run, no record is left of that run; what is due is what it would have come to, had it gone on from there.
pub record PartlyWritten (task : Task) (source image : Used) : Type 0 where
  pub o : Outcome
  pub due : IsDue task source o
  pub done : ℕ
  pub part : done ≤ length o.image
  pub given : Took image (take done o.image)

-- What is due was given to the image, and these lines are due to the notes. An image that fails keeps no report from the notes of a job that is
-- stuck.
pub data Sent (image : Used) (o : Outcome) (lines : List ℕ) : Type 0 where
  Whole : Took image o.image → IsCalm image → lines ≡ o.notes → Sent image o lines
  Front : o.ending ≢ Complete → CutOff image o o.notes lines → Sent image o lines

-- ---- how a job ended

-- it is carried out: the image was given what is due, and so were the notes
pub record IsDone (task : Task) (source image notes : Used) (kept : Option Record) : Type 0 where
  pub o : Outcome
  pub due : IsDue task source o
  pub complete : o.ending ≡ Complete
  pub given : Took image o.image
  pub calm_image : IsCalm image
  pub told : Took notes o.notes
  pub calm_notes : IsCalm notes
  pub kept_is : kept ≡ o.kept

-- it is carried out but for its notes, which failed when the image was whole
pub record IsUnnoted (task : Task) (source image notes : Used) (kept : Option Record) : Type 0 where
  pub o : Outcome
  pub due : IsDue task source o
  pub complete : o.ending ≡ Complete
  pub given : Took image o.image
  pub calm_image : IsCalm image
  pub failed : Failed notes
  pub done : ℕ
  pub part : done < length o.notes
  pub told : Took notes (take done o.notes)
  pub kept_is : kept ≡ o.kept

-- It is carried out, and ends otherwise than complete: a client of its scene waits for ever, or a race was found. The image was given what is due, or
-- a front of it where it failed, and the notes the report.
pub record IsReported (ending : Ending) (task : Task) (source image notes : Used) (kept : Option Record) : Type 0 where
  pub o : Outcome
  pub due : IsDue task source o
  pub ends : o.ending ≡ ending
  pub lines : List ℕ
  pub sent : Sent image o lines
  pub noted : Noted notes lines
  pub kept_is : kept ≡ o.kept

-- why it is refused, with this status and this line; a record is kept where a cluster came to its end
pub data Cause (task : Task) (source image : Used) (status : ℕ) (line : List ℕ) (kept : Option Record) : Type 0 where
  -- the source failed, which the job reads
  SourceFailed : Reads task.job → status ≡ 2 → line ≡ read_fault_line → Failed source → kept ≡ None → Cause task source image status line kept
  -- the input spells no scene; input, scene or words have something outside the limits; or the job isn't for the scene: 3, 4 or 12
  InputRefused : Judged task source status line → kept ≡ None → Cause task source image status line kept
  -- the image failed before it had taken all that is due
  ImageFailed : status ≡ 6 → (o : Outcome) → IsDue task source o → o.ending ≡ Complete → CutOff image o [] line → kept ≡ o.kept
      → Cause task source image status line kept

-- it is refused, and the notes were given the line of its cause
pub record IsRefused (task : Task) (source image notes : Used) (status : ℕ) (kept : Option Record) : Type 0 where
  pub line : List ℕ
  pub cause : Cause task source image status line kept
  pub noted : Noted notes line

-- ---- how a run ended

-- What each status says, by what asks for tasks, and which record is kept.
pub data Ran (asks : Task → Type 0) (source image notes : Used) (status : ℕ) (kept : Option Record) : Type 0 where
  -- nothing is asked for
  Usage : status ≡ 1 → ((task : Task) → asks task → ⊥) → Noted notes usage_line → kept ≡ None → Ran asks source image notes status kept
  -- the task is done; done but for its notes; a client waits for ever; or nobody waits, and a race was found
  Done : status ≡ 0 → ForTask asks (λ task. IsDone task source image notes kept) → Ran asks source image notes status kept
  NotesFailed : status ≡ 8 → ForTask asks (λ task. IsUnnoted task source image notes kept) → Ran asks source image notes status kept
  Stuck : status ≡ 5 → ForTask asks (λ task. IsReported EndsStuck task source image notes kept) → Ran asks source image notes status kept
  RaceFound : status ≡ 11 → ForTask asks (λ task. IsReported EndsRaceFound task source image notes kept) → Ran asks source image notes status kept
  -- the task is refused: 2, 3, 4, 6 or 12, by its cause
  Refused : ForTask asks (λ task. IsRefused task source image notes status kept) → Ran asks source image notes status kept
  -- there was no memory
  NoMemory : status ≡ 7 → Noted notes memory_line → kept ≡ None → Ran asks source image notes status kept

-- it ended with this status, whatever record is kept
abbrev pub Ended : (Task → Type 0) → Used → Used → Used → ℕ → Type 0
Ended asks source image notes status = (kept : Option Record) × Ran asks source image notes status kept

-- ---- what the source holds decides the status

-- image and notes were given all that is due for the work, and the status and the record are those of that
pub record IsJobDone (job : Job) (work : Work) (image notes : Used) (status : ℕ) (kept : Option Record) : Type 0 where
  pub o : Outcome
  pub due : IsOutcome job work o
  pub given : Took image o.image
  pub told : Took notes o.notes
  pub status_is : status ≡ ending_status o.ending
  pub kept_is : kept ≡ o.kept

-- Where the source tells its bytes and doesn't fail, what the task finds in them decides whether it is refused, and with which status, or there was no
-- memory; of a job that makes its scene the words alone decide.
abbrev pub RefusesWhatItFinds : (Task → Type 0) → Used → ℕ → Type 0
RefusesWhatItFinds asks source status =
    (task : Task) (input : List ℕ) (finding : Finding) (refusal : ℕ) → asks task → Holds (origin_of task.job) source input → IsFinding task input finding
    → refused_with finding ≡ Some refusal → (status ≡ 7) ⊎ (status ≡ refusal)

-- What isn't refused is carried out whole where neither image nor notes fail, or there was no memory.
abbrev pub CarriesOutWhatItFinds : (Task → Type 0) → Used → Used → Used → ℕ → Option Record → Type 0
CarriesOutWhatItFinds asks source image notes status kept =
    (task : Task) (input : List ℕ) (work : Work) → asks task → Holds (origin_of task.job) source input → IsInput task input work
    → (Failed image → ⊥) → (Failed notes → ⊥) → (status ≡ 7) ⊎ IsJobDone task.job work image notes status kept

-- ---- the headline

-- The order that each tile's log records is one that the journal permits.
abbrev pub KeepsOrders : Record → Type 0
KeepsOrders kept = (tile : ℕ) → tile < length kept.logs → IsPermitted kept.syncs kept.journal (tile_order kept tile)

-- the text of the frames of a cluster's record
abbrev pub frames_text : Cluster → Scene → Record → List ℕ
frames_text cluster scene kept = image_text_of scene (layout_for cluster scene) kept

-- Every order that the journal permits shows the record's image: in each of them one serial renderer over the whole streams draws, frame by frame,
-- what the tiles drew, so the text of the frames is one too.
pub record ShowsEveryPermittedOrder (cluster : Cluster) (scene : Scene) (kept : Record) : Type 0 where
  pub frames : (order : List Name) → IsPermitted (sync_lists_of scene) kept.journal order → (k : ℕ) → 0 < k → k ≤ frame_count kept.journal
      → recorded_frame scene (layout_for cluster scene) kept k ≡ frame_image scene order k
  pub text : (order : List Name) → IsPermitted (sync_lists_of scene) kept.journal order
      → frames_text cluster scene kept ≡ p6_texts (frame_images scene order (frame_count kept.journal))

-- The record's image is the one that `serial` writes of the scene, whatever the tiles, the depth and the schedule.
abbrev pub ShowsTheSerialImage : Cluster → Scene → Record → Type 0
ShowsTheSerialImage cluster scene kept = frames_text cluster scene kept ≡ p6_texts (default_frames scene)

-- Each tile's pixels of every frame written are those of one serial renderer over the whole streams in that tile's recorded order, which keeps each
-- client's order, every barrier and every semaphore grant; and where these order every two commands that touch a common pixel or shared texture, the
-- image is that of every permitted order.
--
-- The record that is kept is lawful for the scene that the source's bytes mean, or that the job makes, behind the filters, and for the tiles of the
-- words: where it comes from, read, expanded, made and filtered, is the task's work. The image was
-- given its frames: all of them with the statuses 0 and 8, and with 5 and 6 a front of their text, which with 5 is the whole unless the image failed.
-- Where besides nobody contends, the image is that of `serial`. The default journal is known before any run: where takers are alone it tells how each run
-- ends, and where nobody contends and the scene is ordered for it, what each run shows.
pub record IsHeadline (asks : Task → Type 0) (source image : Used) (status : ℕ) (kept : Record) : Type 0 where
  pub task : Task
  pub named : asks task
  pub cluster : Cluster
  pub clustered : cluster_of task.job ≡ Some cluster
  pub work : Work
  pub has : HasWork task source work
  pub lawful : IsRecordOf work.scene (layout_for cluster work.scene) kept
  pub permitted : KeepsOrders kept
  pub front : (n : ℕ) × (n ≤ length (frames_text cluster work.scene kept)) × Took image (take n (frames_text cluster work.scene kept))
  pub whole : (status ≡ 0) ⊎ (status ≡ 8) → Took image (frames_text cluster work.scene kept)
  pub unfailed : status ≡ 5 → (Failed image → ⊥) → Took image (frames_text cluster work.scene kept)
  pub one_image : IsOrderedScene work.scene kept.journal → ShowsEveryPermittedOrder cluster work.scene kept
  pub serial_image : IsOrderedScene work.scene kept.journal → IsUncontended (sync_lists_of work.scene) → ShowsTheSerialImage cluster work.scene kept
  pub same_end : TakesAlone (sync_lists_of work.scene) → (status ≡ 5) ↔ (default_ending work.scene ≡ EndsStuck)
  pub foreseen_image : IsUncontended (sync_lists_of work.scene) → IsOrderedScene work.scene (journal_of work.scene) → ShowsTheSerialImage cluster work.scene kept

-- ---- what a run leaves alone

-- the statuses of runs that write nothing to the image
abbrev pub IsUnwritten : ℕ → Type 0
IsUnwritten status = (status ≢ 0) × (status ≢ 5) × (status ≢ 6) × (status ≢ 7) × (status ≢ 8)

-- what is left of an image where there was no memory: a front of what is due
abbrev pub IsLeft : (Task → Type 0) → Used → Used → Type 0
IsLeft asks source image = ForTask asks (λ task. PartlyWritten task source image)

-- something is due to the notes of a job that is done
abbrev pub HasNotes : (Task → Type 0) → Used → Used → Used → Option Record → Type 0
HasNotes asks source image notes kept = ForTask asks (λ task. (done : IsDone task source image notes kept) × (0 < length done.o.notes))

-- ---- the members of a chain behind a run

-- They have the rules with which the streams of the scene leave them that the source's bytes mean; a job whose scene doesn't go through them leaves
-- them as they were.
pub record HaveSeenAll (task : Task) (source : Used) (rules : List SpuRule) : Type 0 where
  pub input : List ℕ
  pub took : Takes (origin_of task.job) source input
  pub found : Found
  pub gives : Gives (origin_of task.job) input found
  pub rules_are : rules ≡ rules_for task (meant found)

-- they have the rules with which a front of these streams leaves them, one client's behind the other's
pub record HaveSeenFront (task : Task) (source : Used) (rules : List SpuRule) : Type 0 where
  pub filtered : is_filtered (origin_of task.job) ≡ true
  pub input : List ℕ
  pub took : Takes (origin_of task.job) source input
  pub found : Found
  pub gives : Gives (origin_of task.job) input found
  pub reached : AreReached task.filters (flat_map (λ stream. stream) (meant found).streams) rules

-- the statuses of runs that were refused before a scene went through the filters
abbrev pub IsEarly : ℕ → Type 0
IsEarly status = (status ≡ 1) ⊎ (status ≡ 2) ⊎ (status ≡ 3) ⊎ (status ≡ 4)

-- and of those that were carried out or refused behind them
abbrev pub IsLate : ℕ → Type 0
IsLate status = (status ≡ 0) ⊎ (status ≡ 5) ⊎ (status ≡ 6) ⊎ (status ≡ 8) ⊎ (status ≡ 11) ⊎ (status ≡ 12)

-- What a run leaves the members with, by its status. Where there was no memory, that may have been so before, in the midst of the streams or behind them.
pub data LeavesMembers (asks : Task → Type 0) (source : Used) (status : ℕ) (rules left : List SpuRule) : Type 0 where
  Ungiven : IsEarly status ⊎ (status ≡ 7) → left ≡ rules → LeavesMembers asks source status rules left
  Given : IsLate status ⊎ (status ≡ 7) → ForTask asks (λ task. HaveSeenAll task source left) → LeavesMembers asks source status rules left
  Broken : status ≡ 7 → ForTask asks (λ task. HaveSeenFront task source left) → LeavesMembers asks source status rules left
