-- What is decided before a show: where takers are alone `check` tells how each `render` of the scene ends, and where nobody contends and `race` finds
-- nothing, `serial` shows what each shows.
use Rattle.std.specs.Prelude.{◌≡◌, ◌≢◌, ℕ, ◌⊎◌, ◌↔◌, List, ◌++◌, Option, Some}
use Rattle.std.specs.declared.string.String.{String}
use Rattle.std.specs.Global.{Global}
use Rattle.rc_base.specs.Lists.{IsFront}
use Rattle.rc_base.specs.Orders.Sync.{sync_lists_of}
use Rattle.rc_base.specs.Outside.Ends.{Used}
use Rattle.order_model.specs.Uncontended.{TakesAlone, IsUncontended}
use Rattle.order_model.specs.declared.record.Record.{Record}
use Rattle.spu_chain.specs.Scenes.{scene_by}
use Rattle.spu_chain.specs.declared.rule.SpuRule.{SpuRule}
use Rattle.run_words.specs.declared.job.Form.TheVariants.{Bytes}
use Rattle.run_words.specs.declared.job.Job.{Job}
use Rattle.run_words.specs.declared.job.Job.TheVariants.{Render, Simulate, Serial, Check, Race}
use Rattle.run_words.specs.Jobs.{AskFiltered, AskPlainly, Task, task_of}
use Rattle.render_core.specs.Outcomes.{Ran}
use Rattle.render_core.specs.Scenes.{Found, Spells, meant}

-- what words ask for: plainly, or behind filters
abbrev pub Asking : Type 1
Asking = List (String Global) → Task → Type 0

-- A run by which words ask for the task. Its source told the input, it ended with this status, and its image was given this.
pub record RunOf (ask : Asking) (task : Task) (input : List ℕ) (status : ℕ) (given : List ℕ) : Type 0 where
  pub words : List (String Global)
  pub asks : ask words task
  pub source : Used
  pub image : Used
  pub notes : Used
  pub kept : Option Record
  pub ran : Ran (ask words) source image notes status kept
  pub told : source.before ≡ Some input
  pub held : List ℕ
  pub before : image.before ≡ Some held
  pub after : image.after ≡ Some (held ++ given)

-- the statuses of runs that came to what is due: done, stuck, or done but for the image or the notes
abbrev pub IsDueStatus : ℕ → Type 0
IsDueStatus status = (status ≡ 0) ⊎ (status ≡ 5) ⊎ (status ≡ 6) ⊎ (status ≡ 8)

-- the job reads a scene and draws it on a cluster
abbrev pub DrawsOnTiles : Job → Type 0
DrawsOnTiles (Render cluster) = Unit {0}
DrawsOnTiles (Simulate seed cluster) = Unit {0}
DrawsOnTiles _ = ⊥

-- `render` and `simulate` are stuck exactly where `check` says so, whatever the tiles, the depth and the schedule.
abbrev pub EndsAreForeseen : Asking → List SpuRule → List ℕ → Type 0
EndsAreForeseen ask filters input =
    (job : Job) (status other : ℕ) (blank shown : List ℕ) → DrawsOnTiles job → RunOf ask (task_of filters Check) input status blank
    → RunOf ask (task_of filters job) input other shown → IsDueStatus status → IsDueStatus other → (status ≡ 5) ↔ (other ≡ 5)

-- Where `race` ends with 0 they are never stuck, and write byte for byte what `serial` writes, or where the image fails a front of that.
abbrev pub ImagesAreForeseen : Asking → List SpuRule → List ℕ → Type 0
ImagesAreForeseen ask filters input =
    (job : Job) (status : ℕ) (blank drawn shown : List ℕ) → DrawsOnTiles job → RunOf ask (task_of filters Race) input 0 blank
    → RunOf ask (task_of filters Serial) input 0 drawn → RunOf ask (task_of filters job) input status shown → IsDueStatus status
    → (status ≢ 5) × IsFront shown drawn × (status ≢ 6 → shown ≡ drawn)

-- So it is by the scene that the input means, behind the filters: the ends where one client takes from each semaphore and no barrier is named by more clients
-- than it counts, the images where besides one client gives each unit that is taken.
abbrev pub ShowsAreForeseen : Asking → Type 0
ShowsAreForeseen ask =
    (filters : List SpuRule) (input : List ℕ) (found : Found) → Spells Bytes input found
    → (TakesAlone (sync_lists_of (scene_by filters (meant found))) → EndsAreForeseen ask filters input)
    × (IsUncontended (sync_lists_of (scene_by filters (meant found))) → ImagesAreForeseen ask filters input)

-- One stream was dealt to several clients: where nobody contends in what came of it, `race` ended with 0 on that, and `serial` wrote the same bytes of both
-- inputs, every run of the dealt one on tiles writes what every `serial` of the one stream writes.
abbrev pub DealtShowsAreForeseen : Asking → Type 0
DealtShowsAreForeseen ask =
    (filters : List SpuRule) (dealt single : List ℕ) (found other : Found) → Spells Bytes dealt found → Spells Bytes single other
    → IsUncontended (sync_lists_of (scene_by filters (meant found)))
    → (blank text : List ℕ) → RunOf ask (task_of filters Race) dealt 0 blank → RunOf ask (task_of filters Serial) dealt 0 text
    → RunOf ask (task_of filters Serial) single 0 text
    → (job : Job) (status : ℕ) (shown drawn : List ℕ) → DrawsOnTiles job → RunOf ask (task_of filters job) dealt status shown → IsDueStatus status
    → RunOf ask (task_of filters Serial) single 0 drawn → (status ≢ 5) × IsFront shown drawn × (status ≢ 6 → shown ≡ drawn)

-- of `run`, and of `run_filtered`
abbrev pub ShowsAreDecidedBefore : Type 0
ShowsAreDecidedBefore = ShowsAreForeseen AskPlainly × ShowsAreForeseen AskFiltered

abbrev pub DealtShowsAreDecidedBefore : Type 0
DealtShowsAreDecidedBefore = DealtShowsAreForeseen AskPlainly × DealtShowsAreForeseen AskFiltered
