-- What a task finds in its input, or in its words where it makes its scene: one of five cases, by which it is carried out or refused.
use Rattle.std.specs.Prelude.{◌≡◌, ℕ, ◌+◌, ◌<◌, ◌≤◌, ◌⊎◌, List, ◌++◌, length, Option, Some, None}
use Rattle.scene_text.specs.Text.Faults.{text_fault}
use Rattle.rc_base.specs.Outside.Transfer.{byte_limit}
use Rattle.rc_base.specs.declared.scene.Limit.{Limit}
use Rattle.rc_base.specs.declared.scene.SceneKind.{SceneKind}
use Rattle.rc_base.specs.declared.scene.SceneKind.TheVariants as kind
use Rattle.rc_base.specs.declared.scene.TextKind.{TextKind}
use Rattle.rc_base.specs.declared.sync.Name.{Name}
use Rattle.scene_file.specs.Faults.{DiffersFromAll, FailsAsListScene, FailsAsScene}
use Rattle.scene_file.specs.Letters.{BeginWithLists, list_letters, plain_letters}
use Rattle.run_words.specs.declared.job.Form.TheVariants.{Bytes, PlainBytes, Text}
use Rattle.run_words.specs.declared.job.Origin.{Origin}
use Rattle.run_words.specs.declared.job.Origin.TheVariants.{Read, Generated}
use Rattle.rc_base.specs.Outside.Ends.{Used}
use Rattle.run_words.specs.declared.work.Work.{Work}
use Rattle.run_words.specs.Jobs.{Task, origin_of}
use Rattle.render_core.specs.Scenes.{Found, limit_for, meant, scene_for, Gives, Takes, IsInput, IsNotFor}
use Rattle.run_words.specs.Lines.{scene_kind_name, text_kind_name, malformed_line, limit_line, not_last_line}

pub data Finding : Type 0 where
  -- more bytes than are read
  Long : Finding
  -- bytes that spell no scene
  Malformed : Finding
  -- a scene, where this is the first quantity outside its range
  Outside : Limit → Finding
  -- a scene within the limits that the job isn't for, with the first command that keeps it from that
  Unsuited : Name → Finding
  -- a scene within the limits that the job is for, and what is worked on then
  Sound : Work → Finding

-- The input is this to the task. It is one thing: a law says so.
abbrev pub IsFinding : Task → List ℕ → Finding → Type 0
IsFinding task input Long = byte_limit < length input
IsFinding task input Malformed = (length input ≤ byte_limit) × ((found : Found) → Gives (origin_of task.job) input found → ⊥)
IsFinding task input (Outside limit) =
    (length input ≤ byte_limit) × ((found : Found) × Gives (origin_of task.job) input found × (limit_for task.job found ≡ Some limit))
IsFinding task input (Unsuited name) =
    (length input ≤ byte_limit)
    × ((found : Found) × Gives (origin_of task.job) input found × (limit_for task.job found ≡ None) × IsNotFor task.job (scene_for task (meant found)) name)
IsFinding task input (Sound work) = IsInput task input work

-- the status with which it is refused; what is sound is carried out
abbrev pub refused_with : Finding → Option ℕ
refused_with Long = Some 4
refused_with Malformed = Some 3
refused_with (Outside limit) = Some 4
refused_with (Unsuited name) = Some 12
refused_with (Sound work) = None

-- ---- the line that tells it

-- Why bytes spell no scene, with or without call lists, and where. Bytes that begin as one with call lists are judged as such, and all others as one
-- without; the first bytes are wrong where they differ from those of every version.
abbrev pub FailsAsFound : List ℕ → SceneKind → ℕ → Type 0
FailsAsFound input kind.BadMagic at = DiffersFromAll (plain_letters.all ++ list_letters.all) input at
FailsAsFound input k at = (BeginWithLists input × FailsAsListScene input k at) ⊎ ((BeginWithLists input → ⊥) × FailsAsScene input k at)

-- the first fault of bytes and its place, or of a text and its line; a scene that is made has none
abbrev pub TellsFault : Origin → List ℕ → List ℕ → Type 0
TellsFault (Read Bytes) input line = (kind : SceneKind) × (at : ℕ) × FailsAsFound input kind at × (line ≡ malformed_line (scene_kind_name kind) at)
TellsFault (Read PlainBytes) input line = (kind : SceneKind) × (at : ℕ) × FailsAsScene input kind at × (line ≡ malformed_line (scene_kind_name kind) at)
TellsFault (Read Text) input line = (kind : TextKind) × (at : ℕ) × (text_fault input ≡ Some (at, kind)) × (line ≡ malformed_line (text_kind_name kind) at)
TellsFault (Generated seed size) input line = ⊥

-- the line tells why the task refuses this
abbrev pub TellsFinding : Task → List ℕ → Finding → List ℕ → Type 0
TellsFinding task input Long line = line ≡ limit_line 1 (byte_limit + 1)
TellsFinding task input Malformed line = TellsFault (origin_of task.job) input line
TellsFinding task input (Outside limit) line = line ≡ limit_line limit.what limit.value
TellsFinding task input (Unsuited name) line = line ≡ not_last_line name
TellsFinding task input (Sound work) line = ⊥

-- the task refuses the input with this status and this line
pub record IsJudged (task : Task) (input : List ℕ) (status : ℕ) (line : List ℕ) : Type 0 where
  pub finding : Finding
  pub is : IsFinding task input finding
  pub refused : refused_with finding ≡ Some status
  pub told : TellsFinding task input finding line

-- the input was taken of the source, and is refused
pub record Judged (task : Task) (source : Used) (status : ℕ) (line : List ℕ) : Type 0 where
  pub input : List ℕ
  pub took : Takes (origin_of task.job) source input
  pub judged : IsJudged task input status line
