-- The scenes of tasks: what an input spells, what that means, what the filters make of it, and what limits it.
use Rattle.std.specs.Prelude.{◌≡◌, ℕ, ◌+◌, ◌<◌, ◌≤◌, slice_index_or, Bool, true, false, List, [], Option, Some, None, length, map, if◌then◌else◌}
use Rattle.std.specs.Option.{option_or}
use Rattle.rc_base.specs.declared.scene.Limit.{Limit}
use Rattle.rc_base.specs.declared.scene.Scene.{Scene}
use Rattle.rc_base.specs.declared.state.Fault.{Fault}
use Rattle.rc_base.specs.declared.sync.Name.{Name}
use Rattle.rc_base.specs.Formats.Limits.{expansion_limit, limit_of, read_limit, stream_limit}
use Rattle.rc_base.specs.Formats.Spelling.{SpellsScene}
use Rattle.scene_text.specs.Text.Read.{SpellsText}
use Rattle.rc_base.specs.Cluster.Tiles.{tile_count}
use Rattle.rc_base.specs.Outside.Ends.{Used, Failed, TookInput}
use Rattle.rc_base.specs.Outside.Transfer.{byte_limit}
use Rattle.scene_file.specs.Generator.{generated_scene}
use Rattle.call_lists.specs.Expansion.{list_faults}
use Rattle.call_lists.specs.Scenes.{cost_told, expanded, met_in}
use Rattle.scene_file.specs.Faults.{SpellsListScene}
use Rattle.scene_file.specs.declared.list_scene.ListScene.{ListScene}
use Rattle.sort_last.specs.Offends.{IsComposable, IsFirstOffence}
use Rattle.spu_chain.specs.declared.rule.SpuRule.{SpuRule}
use Rattle.spu_chain.specs.Scenes.{counts_from, rules_after_all, scene_by}
use Rattle.run_words.specs.declared.job.Cluster.{Cluster}
use Rattle.run_words.specs.declared.job.Job.{Job}
use Rattle.run_words.specs.declared.job.Job.TheVariants.{Last}
use Rattle.run_words.specs.declared.job.Form.{Form}
use Rattle.run_words.specs.declared.job.Form.TheVariants.{Bytes, PlainBytes, Text}
use Rattle.run_words.specs.declared.job.Origin.{Origin}
use Rattle.run_words.specs.declared.job.Origin.TheVariants.{Read, Generated}
use Rattle.run_words.specs.declared.work.Work.{Work}
use Rattle.run_words.specs.Asked.{layout_for, word_limit, IsWellRead}
use Rattle.run_words.specs.Jobs.{Task, origin_of}
use Rattle.run_words.specs.Lines.{filter_lines, list_fault_lines}

-- ---- what is found, and what it means

-- A scene as it is found: of commands that draw, or with call lists.
pub data Found : Type 0 where
  Plain : Scene → Found
  Lists : ListScene → Found

-- The scene that it means: of call lists that of their expansions.
abbrev pub meant : Found → Scene
meant (Plain s) = s
meant (Lists s) = record { decl = s.decl; streams = map expanded s.streams }

-- the commands of each client that are refused before anything is issued, with their places in the stream as it is found
abbrev pub refused_in : Found → List (List (ℕ × Fault))
refused_in (Plain s) = []
refused_in (Lists s) = map list_faults s.streams

-- the input spells it in this form
abbrev pub Spells : Form → List ℕ → Found → Type 0
Spells Bytes input (Plain s) = SpellsScene input s
Spells Bytes input (Lists s) = SpellsListScene input s
Spells PlainBytes input (Plain s) = SpellsScene input s
Spells PlainBytes input (Lists s) = ⊥
Spells Text input (Plain s) = SpellsText input s
Spells Text input (Lists s) = ⊥

-- it comes of this input; a scene that is made is that of its seed and its size, whatever the input
abbrev pub Gives : Origin → List ℕ → Found → Type 0
Gives (Read form) input found = Spells form input found
Gives (Generated seed size) input found = found ≡ Plain (generated_scene seed size)

-- ---- what the filters make of it

-- scenes that are drawn or judged go through the filters: those that are read as bytes of either form
abbrev pub is_filtered : Origin → Bool
is_filtered (Read Bytes) = true
is_filtered (Read PlainBytes) = false
is_filtered (Read Text) = false
is_filtered (Generated seed size) = false

-- what the task's filters make of a scene
abbrev pub scene_for : Task → Scene → Scene
scene_for task scene = if is_filtered (origin_of task.job) then scene_by task.filters scene else scene

-- the rules that they have behind it
abbrev pub rules_for : Task → Scene → List SpuRule
rules_for task scene = if is_filtered (origin_of task.job) then rules_after_all task.filters scene.streams else task.filters

-- what those of them counted that count: each one's place and number
abbrev pub counts_for : Task → Scene → List (ℕ × ℕ)
counts_for task scene = if is_filtered (origin_of task.job) then counts_from 0 (rules_for task scene) else []

-- What a task works on where this scene is meant and these commands were refused: the scene behind the filters, and the lines that the report has
-- besides the scene's own.
abbrev pub work_with : Task → Scene → List (List (ℕ × Fault)) → Work
work_with task scene faults = record {
  scene = scene_for task scene;
  refused = list_fault_lines faults;
  counted = filter_lines (counts_for task scene);
}

-- what it works on where this is found
abbrev pub work_for : Task → Found → Work
work_for task found = work_with task (meant found) (refused_in found)

-- ---- the source

-- the end is as it was
abbrev pub IsUntouched : Used → Type 0
IsUntouched e = (e.after ≡ e.before) × (e.faults_after ≡ e.faults_before)

-- this input is taken of the source for it: nothing where the scene is made
abbrev pub Takes : Origin → Used → List ℕ → Type 0
Takes (Read form) source input = TookInput source input
Takes (Generated seed size) source input = (input ≡ []) × IsUntouched source

-- the source has this input for it: it tells these bytes and doesn't fail, and for a scene that is made it needn't tell any
abbrev pub Holds : Origin → Used → List ℕ → Type 0
Holds (Read form) source input = (source.before ≡ Some input) × (Failed source → ⊥)
Holds (Generated seed size) source input = input ≡ []

-- ---- limits

-- how many actors the cluster has
abbrev pub actors_for : Cluster → Scene → ℕ
actors_for cluster scene = length scene.streams + 1 + tile_count (layout_for cluster scene)

-- these pick among so many
abbrev pub ArePicks : List ℕ → ℕ → Type 0
ArePicks picks actors = (i : ℕ) → i < length picks → slice_index_or picks i 0 < actors

-- Of what is found: a scene's own quantities; or with call lists those of what is read, the costs of the expansion, and those of the streams that it
-- means.
abbrev pub found_limit : Found → Option Limit
found_limit (Plain s) = limit_of s
found_limit (Lists s) =
    option_or (read_limit s.decl s.streams) (option_or (expansion_limit (cost_told 0 (met_in s.streams))) (stream_limit (meant (Lists s))))

-- of what is read; a scene that is made is within the limits where its size is
abbrev pub scene_limit : Origin → Found → Option Limit
scene_limit (Read form) found = found_limit found
scene_limit (Generated seed size) found = None

-- The first quantity outside its range of all that are judged for the job: those of what is found, and then the words'. The filters come behind them.
abbrev pub limit_for : Job → Found → Option Limit
limit_for job found = option_or (scene_limit (origin_of job) found) (word_limit job (meant found))

-- ---- the scenes that a job is for

-- the job is for the scene: where clients are drawn apart none of their commands may keep them from that
abbrev pub IsFor : Job → Scene → Type 0
IsFor Last scene = IsComposable scene
IsFor _ scene = Unit {0}

-- it isn't, and this is the first command that keeps the scene's clients from being drawn apart
abbrev pub IsNotFor : Job → Scene → Name → Type 0
IsNotFor Last scene name = IsFirstOffence scene name
IsNotFor _ scene name = ⊥

-- ---- the work of a run

-- The input gives a scene of which no quantity is outside its range, this is what the task works on then, and the job is for its scene.
pub record IsInput (task : Task) (input : List ℕ) (work : Work) : Type 0 where
  pub found : Found
  pub short : length input ≤ byte_limit
  pub gives : Gives (origin_of task.job) input found
  pub within : limit_for task.job found ≡ None
  pub is : work ≡ work_for task found
  pub suits : IsFor task.job work.scene

-- the task's work came from the source
pub record HasWork (task : Task) (source : Used) (work : Work) : Type 0 where
  pub input : List ℕ
  pub took : Takes (origin_of task.job) source input
  pub is : IsInput task input work

-- the scene is well read in this form, and within the limits
pub record IsReadWithin (form : Form) (scene : Scene) : Type 0 where
  pub well : IsWellRead form scene
  pub within : limit_of scene ≡ None
