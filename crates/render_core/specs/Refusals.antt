-- What the steps of a job leave: the refusals of each, and what is due.
use Rattle.std.specs.Prelude.{◌≡◌, ◌≢◌, ℕ, ◌≤◌, ◌^◌, ◌==◌, ◌⊎◌, true, false, List, [], ◌++◌, length, Option, Some, None, Result, Ok, Err, IfErr, IfOk, if◌then◌else◌}
use Rattle.rc_base.specs.Outside.Transfer.{byte_limit}
use Rattle.order_model.specs.declared.record.Record.{Record}
use Rattle.std.specs.List.{AllByRecursion, flat_map}
use Rattle.rc_base.specs.Formats.Netpbm.{p6_texts}
use Rattle.rc_base.specs.declared.scene.Scene.{Scene}
use Rattle.frame_out.specs.Writing.{AreWritable, IsTextWritten}
use Rattle.frame_out.specs.declared.writing.Written.{Written}
use Rattle.scene_file.specs.Letters.{BeginWithLists}
use Rattle.scene_file.specs.declared.list_scene.ListScene.{ListScene}
use Rattle.scene_file.specs.declared.fault.SceneFault.{SceneFault}
use Rattle.scene_file.specs.declared.fault.SceneFault.TheVariants as scene_faults
use Rattle.sort_last.specs.declared.last.LastFault.{LastFault}
use Rattle.sort_last.specs.declared.last.LastFault.TheVariants as apart
use Rattle.run_words.specs.declared.job.Job.{Job}
use Rattle.run_words.specs.declared.job.Form.{Form}
use Rattle.run_words.specs.declared.job.Form.TheVariants.{Bytes}
use Rattle.render_core.specs.declared.due.Due.{Due}
use Rattle.render_core.specs.declared.due.DueImage.{DueImage}
use Rattle.render_core.specs.declared.due.DueImage.TheVariants.{Frames, OneText}
use Rattle.run_words.specs.declared.refusal.DueRefusal.{DueRefusal}
use Rattle.run_words.specs.declared.refusal.DueRefusal.TheVariants as undue
use Rattle.run_words.specs.declared.told.Ending.{Ending}
use Rattle.run_words.specs.declared.told.Ending.TheVariants.{Complete}
use Rattle.run_words.specs.declared.refusal.InputRefusal.{InputRefusal}
use Rattle.run_words.specs.declared.refusal.InputRefusal.TheVariants as judging
use Rattle.run_words.specs.declared.refusal.ImageRefusal.TheVariants as writing
use Rattle.run_words.specs.declared.refusal.Refusal.{Refusal}
use Rattle.run_words.specs.declared.refusal.Refused.{Refused}
use Rattle.run_words.specs.declared.refusal.Refusal.TheVariants.{Image}
use Rattle.run_words.specs.declared.told.Told.{Told}
use Rattle.run_words.specs.declared.job.Origin.TheVariants.{Read}
use Rattle.render_core.specs.Due.{Outcome, IsOutcome}
use Rattle.rc_base.specs.Outside.Ends.{Used, TookFront}
use Rattle.render_core.specs.Findings.{IsJudged}
use Rattle.run_words.specs.declared.work.Work.{Work}
use Rattle.render_core.specs.declared.work.Meaning.{Meaning}
use Rattle.run_words.specs.Jobs.{Task, origin_of}
use Rattle.render_core.specs.Scenes.{Found, Lists, found_limit, is_filtered, rules_for, meant, refused_in, scene_limit, work_for, Spells, Gives, Takes, IsNotFor}
use Rattle.run_words.specs.Asked.{word_limit}
use Rattle.run_words.specs.Statuses.{input_line, input_status, refusal_line, refusal_status}
use Rattle.spu_chain.specs.Filter.{AreReached, HasByteTint, HaveRoom}
use Rattle.spu_chain.specs.declared.rule.SpuRule.{SpuRule}
use Rattle.run_words.specs.Lines.{image_fault_line, memory_line}
use Rattle.render_core.specs.Outcomes.{Sent, IsDue, Cause, IsEarly, HaveSeenAll, HaveSeenFront}

-- ---- the scene

-- a scene was found that means this: with call lists that of their expansions, and the commands that were refused among them
pub record IsMeaning (found : Found) (x : Meaning) : Type 0 where
  pub scene : x.scene ≡ meant found
  pub faults : x.faults ≡ refused_in found

-- the input spells what means this, and no quantity of what is found is outside its range
pub record IsRead (form : Form) (input : List ℕ) (x : Meaning) : Type 0 where
  pub found : Found
  pub spelled : Spells form input found
  pub within : found_limit found ≡ None
  pub means : IsMeaning found x

-- The task's scene came from the source or is made, and of one that was read no quantity is outside its range; those of the words are judged after it.
pub record Came (job : Job) (source : Used) (x : Meaning) : Type 0 where
  pub input : List ℕ
  pub took : Takes (origin_of job) source input
  pub short : length input ≤ byte_limit
  pub found : Found
  pub gives : Gives (origin_of job) input found
  pub within : scene_limit (origin_of job) found ≡ None
  pub means : IsMeaning found x

-- why bytes spell no scene within the limits, as a refusal
abbrev pub refusal_of_scene : SceneFault → InputRefusal
refusal_of_scene (scene_faults.Malformed kind at) = judging.MalformedScene kind at
refusal_of_scene (scene_faults.Limit what value) = judging.PastLimit (record { what = what; value = value })
refusal_of_scene scene_faults.OutOfMemory = judging.OutOfMemory

-- what a scene with call lists means, of which no quantity is outside its range
abbrev pub IsExpanded : ListScene → Meaning → Type 0
IsExpanded scene x = IsMeaning (Lists scene) x × (found_limit (Lists scene) ≡ None)

-- the first quantity of its expansion that is, or want of memory
abbrev pub IsPast : ListScene → InputRefusal → Type 0
IsPast scene (judging.MalformedScene kind at) = ⊥
IsPast scene (judging.MalformedText kind line) = ⊥
IsPast scene (judging.PastLimit limit) = found_limit (Lists scene) ≡ Some limit
IsPast scene judging.OutOfMemory = Unit {0}

-- every task that reads this form refuses the input, or there was no memory
abbrev pub IsRefusedInput : Form → List ℕ → InputRefusal → Type 0
IsRefusedInput form input refusal =
    (refusal ≡ judging.OutOfMemory)
    ⊎ ((task : Task) → origin_of task.job ≡ Read form → IsJudged task input (input_status refusal) (input_line refusal))

-- so it is of bytes, where they begin as those of no scene with call lists
abbrev pub IsRefusedBytes : List ℕ → InputRefusal → Type 0
IsRefusedBytes input refusal = IsRefusedInput Bytes input refusal

abbrev pub BeginPlain : List ℕ → Type 0
BeginPlain input = BeginWithLists input → ⊥

-- the members of a chain have room for the commands of every scene, and bytes as tints
pub record AreReady (rules : List SpuRule) : Type 0 where
  pub room : (n : ℕ) → n ≤ 2 ^ 63 → HaveRoom n rules
  pub tints : AllByRecursion HasByteTint rules

-- the members of a chain have seen nothing of the scene, all of it, or a front of its streams
abbrev pub HaveSeenSome : Task → Scene → List SpuRule → Type 0
HaveSeenSome task scene left =
    (left ≡ task.filters)
    ⊎ ((left ≡ rules_for task scene)
    ⊎ ((is_filtered (origin_of task.job) ≡ true) × AreReached task.filters (flat_map (λ stream. stream) scene.streams) left))

-- This is what the task works on where its scene came so from the source, and what the words ask for is within its range there.
pub record IsWorkOf (task : Task) (source : Used) (work : Work) : Type 0 where
  pub meaning_of : Meaning
  pub came : Came task.job source meaning_of
  pub asked : word_limit task.job meaning_of.scene ≡ None
  pub is : work ≡ work_for task came.found

-- ---- what is due

-- the bytes of what is due to the image
abbrev pub due_text : DueImage → List ℕ
due_text (Frames images) = p6_texts images
due_text (OneText bytes) = bytes

-- the frames can be written
abbrev pub IsWritable : DueImage → Type 0
IsWritable (Frames images) = AreWritable images
IsWritable (OneText bytes) = Unit {0}

-- nothing is due to the image
abbrev pub IsBlank : DueImage → Type 0
IsBlank (Frames images) = ⊥
IsBlank (OneText bytes) = bytes ≡ []

-- what was made of a scene, as contracts see it
abbrev pub outcome_of : Due → Outcome
outcome_of due = record { image = due_text due.image; notes = due.notes; ending = due.ending; kept = due.kept }

-- it is what is due for the job's work
abbrev pub IsMadeFor : Job → Work → Due → Type 0
IsMadeFor job work due = IsOutcome job work (outcome_of due)

-- what is due so was made, and can be written, or there was no memory
pub record MakesDue (is_so : Due → Type 0) (result : Result Due DueRefusal) : Type 0 where
  pub outcome : IfOk result is_so
  pub writable : IfOk result (λ due. IsWritable due.image)
  pub refused : IfErr result (λ refusal. refusal ≡ undue.OutOfMemory)

-- why nothing is due where clients aren't drawn apart
abbrev pub refusal_of : LastFault → DueRefusal
refusal_of (apart.NotLast client place) = undue.NotLast (record { client = client; place = place })
refusal_of apart.OutOfMemory = undue.OutOfMemory

-- What the words ask for is outside its range in the window of the scene that was made, or there was no memory.
abbrev pub IsUnmade : Job → Scene → DueRefusal → Type 0
IsUnmade job scene (undue.PastLimit limit) = word_limit job scene ≡ Some limit
IsUnmade job scene (undue.NotLast name) = ⊥
IsUnmade job scene undue.OutOfMemory = Unit {0}

-- The job isn't for the scene, or there was no memory.
abbrev pub IsNoOutcome : Job → Scene → DueRefusal → Type 0
IsNoOutcome job scene (undue.PastLimit limit) = ⊥
IsNoOutcome job scene (undue.NotLast name) = IsNotFor job scene name
IsNoOutcome job scene undue.OutOfMemory = Unit {0}

-- ---- writing

-- the image took what is due to it, as much of it as is told, or a front of it
abbrev pub IsGiven : Used → DueImage → Written → Type 0
IsGiven image due written = IsTextWritten image (due_text due) written

abbrev pub TookSome : Used → DueImage → Type 0
TookSome image due = TookFront image (due_text due)

-- Of what was made of a scene this is left to tell, where the image took so much of it. A fault of the image adds a line to what isn't complete.
pub record IsToldOf (notes : List ℕ) (ending : Ending) (kept : Option Record) (written : Written) (told : Told) : Type 0 where
  pub lines : ((written.fault ≡ false) × (told.lines ≡ notes)) ⊎ ((written.fault ≡ true) × (ending ≢ Complete) × (told.lines ≡ notes ++ image_fault_line written.bytes))
  pub ending_is : told.ending ≡ ending
  pub kept_is : told.kept ≡ kept

-- nothing of it is, since a fault of the image cuts off what is complete, or there was no memory
pub record IsUntold (ending : Ending) (kept : Option Record) (written : Written) (refused : Refused) : Type 0 where
  pub why : (refused.refusal ≡ Image writing.OutOfMemory)
      ⊎ ((written.fault ≡ true) × (ending ≡ Complete) × (refused.refusal ≡ Image (writing.Fault written.bytes)))
  pub kept_is : refused.kept ≡ kept

-- what is due was given to the image, and this is left to tell
pub record IsSent (image : Used) (o : Outcome) (told : Told) : Type 0 where
  pub sent : Sent image o told.lines
  pub ending : told.ending ≡ o.ending
  pub kept : told.kept ≡ o.kept

-- the job is carried out but for what is left to tell
pub record IsPerformed (task : Task) (source image : Used) (told : Told) : Type 0 where
  pub o : Outcome
  pub due : IsDue task source o
  pub sent : IsSent image o told

-- ---- refusals

-- the record that is kept with a refusal: with that of an image that failed
abbrev pub kept_for : ℕ → Option Record → Option Record
kept_for status kept = if status == 6 then kept else None

-- the refusal has a cause, or there was no memory
abbrev pub IsCaused : Task → Used → Used → Refusal → Option Record → Type 0
IsCaused task source image refusal kept =
    Cause task source image (refusal_status refusal) (refusal_line refusal) (kept_for (refusal_status refusal) kept)
    ⊎ ((refusal_status refusal ≡ 7) × (refusal_line refusal ≡ memory_line))

-- The refusal comes before the image: its cause is the source or what it holds, whatever was given to the image, and no record is kept with it.
abbrev pub IsRefusedUnwritten : Task → Used → Refusal → Type 0
IsRefusedUnwritten task source refusal = (image : Used) → IsCaused task source image refusal None

-- so it does for every task of this job
abbrev pub IsRefusedFor : Job → Used → Refusal → Type 0
IsRefusedFor job source refusal = (task : Task) → task.job ≡ job → IsRefusedUnwritten task source refusal

-- ---- the members of a chain

-- What is left of them where a task is refused with this status, or as if there were no memory.
pub data LeftBy (task : Task) (source : Used) (status : ℕ) (left : List SpuRule) : Type 0 where
  Before : IsEarly status ⊎ (status ≡ 7) → left ≡ task.filters → LeftBy task source status left
  Behind : (status ≡ 6) ⊎ (status ≡ 12) ⊎ (status ≡ 7) → HaveSeenAll task source left → LeftBy task source status left
  Amid : status ≡ 7 → HaveSeenFront task source left → LeftBy task source status left

-- what is left of them behind the filters, or where the task is refused before or by its scene
abbrev pub LeftAfter : {A : Type 0} → Task → Used → Result A Refusal → List SpuRule → Type 0
LeftAfter task source (Ok done) left = HaveSeenAll task source left
LeftAfter task source (Err refusal) left = LeftBy task source (refusal_status refusal) left

-- it comes with the image
abbrev pub IsLateRefusal : Refused → Type 0
IsLateRefusal refused = (refusal_status refused.refusal ≡ 6) ⊎ (refusal_status refused.refusal ≡ 7)

-- the refusal comes before the filters
abbrev pub IsEarlyRefusal : Refusal → Type 0
IsEarlyRefusal refusal = IsEarly (refusal_status refusal) ⊎ (refusal_status refusal ≡ 7)

-- what is left of them where it is carried out or refused
abbrev pub LeftWith : Task → Used → Result Told Refused → List SpuRule → Type 0
LeftWith task source (Ok told) left = HaveSeenAll task source left
LeftWith task source (Err refused) left = LeftBy task source (refusal_status refused.refusal) left
