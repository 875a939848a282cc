-- What is asked for: the words that name jobs and filters, and where the jobs' scenes come from.
use Rattle.std.specs.Prelude.{◌≡◌, ℕ, ◌⊎◌, Bool, true, List, [], Option, Some, None, is_some, drop, map, slice_get, string_bytes}
use Rattle.std.specs.declared.string.String.{String}
use Rattle.std.specs.Global.{Global}
use Rattle.spu_chain.specs.declared.rule.SpuRule.{SpuRule}
use Rattle.command_line.specs.declared.job.JobName.{JobName}
use Rattle.command_line.specs.Filters.{AreNamed, BeginsFilter, NamesChain}
use Rattle.command_line.specs.Words.{Setting, IsCommandLine, IsSomeLine, job_word, tiles_in, depth_in, order_in, seed_in, size_in}
use Rattle.command_line.specs.declared.job.JobName.TheVariants as name
use Rattle.run_words.specs.declared.job.Cluster.{Cluster}
use Rattle.run_words.specs.declared.job.Job.{Job}
use Rattle.run_words.specs.declared.job.Job.TheVariants.{Render, Simulate, Serial, Last, Check, Race, Pack, Unpack, Gen, Demo}
use Rattle.run_words.specs.declared.job.Form.{Form}
use Rattle.run_words.specs.declared.job.Form.TheVariants.{Bytes, PlainBytes, Text}
use Rattle.run_words.specs.declared.job.Origin.{Origin}
use Rattle.run_words.specs.declared.job.Origin.TheVariants.{Read, Generated}

-- ---- words

-- the cluster that the settings ask for
abbrev pub cluster_in : List Setting → Cluster
cluster_in settings =
    record { columns = (tiles_in settings).0; rows = (tiles_in settings).1; depth = depth_in settings; orders = order_in settings }

-- the job that a name and settings ask for
abbrev pub job_in : JobName → List Setting → Job
job_in name.Render settings = Render (cluster_in settings)
job_in name.Simulate settings = Simulate (seed_in settings) (cluster_in settings)
job_in name.Serial settings = Serial
job_in name.Last settings = Last
job_in name.Check settings = Check
job_in name.Race settings = Race
job_in name.Pack settings = Pack
job_in name.Unpack settings = Unpack
job_in name.Gen settings = Gen (seed_in settings) (size_in settings)
job_in name.Demo settings = Demo (seed_in settings) (size_in settings) (cluster_in settings)

-- the words are a command line
abbrev pub IsLine : List (String Global) → Type 0
IsLine words = IsSomeLine (map string_bytes words)

-- they are none, and they begin with no filter's word
abbrev pub NoLine : List (String Global) → Type 0
NoLine words = IsLine words → ⊥

abbrev pub BeginsPlainly : List (String Global) → Type 0
BeginsPlainly words = BeginsFilter (map string_bytes words) → ⊥

-- they are one that asks for the job
pub record IsJob (words : List (String Global)) (job : Job) : Type 0 where
  pub name : JobName
  pub settings : List Setting
  pub line : IsCommandLine (map string_bytes words) name settings
  pub asked : job_in name settings ≡ job

-- they are none that asks for a job
abbrev pub AskNoJob : List (String Global) → Type 0
AskNoJob words = (job : Job) → IsJob words job → ⊥

-- What is asked for: a job, and the rules of the filters that the scene goes through which it draws or judges.
pub record Task : Type 0 where
  pub filters : List SpuRule
  pub job : Job

abbrev pub task_of : List SpuRule → Job → Task
task_of filters job = record { filters = filters; job = job }

-- the words ask for a job, which is carried out with these filters
abbrev pub AskWith : List SpuRule → List (String Global) → Task → Type 0
AskWith filters words task = (task.filters ≡ filters) × IsJob words task.job

-- the words ask for a job, and for no filter
abbrev pub AskPlainly : List (String Global) → Task → Type 0
AskPlainly words task = AskWith [] words task

-- the words are those of filters, and behind them those of a job
pub record AskFiltered (words : List (String Global)) (task : Task) : Type 0 where
  pub count : ℕ
  pub chain : NamesChain (map string_bytes words) task.filters count
  pub job : IsJob (drop count words) task.job

-- behind the words of filters those of the job stand, whichever members the former name
abbrev pub IsJobBehind : List (String Global) → Job → Type 0
IsJobBehind words job = (rules : List SpuRule) → AreNamed (map string_bytes words) rules → AskFiltered words (task_of rules job)

-- something is asked for of which this holds
abbrev pub ForTask : (Task → Type 0) → (Task → Type 0) → Type 0
ForTask asks holds = (task : Task) × asks task × holds task

-- the cluster that the job runs
abbrev pub cluster_of : Job → Option Cluster
cluster_of (Render cluster) = Some cluster
cluster_of (Simulate seed cluster) = Some cluster
cluster_of (Demo seed size cluster) = Some cluster
cluster_of _ = None

-- the cluster of a job whose actors are threads of their own
abbrev pub threads_of : Job → Option Cluster
threads_of (Render cluster) = Some cluster
threads_of (Demo seed size cluster) = Some cluster
threads_of _ = None

-- so whose turn it is in its cluster is left open
abbrev pub has_threads : Job → Bool
has_threads job = is_some (threads_of job)

-- it starts threads: those of such a cluster, or those that draw its clients apart
abbrev pub starts_threads : Job → Bool
starts_threads Last = true
starts_threads job = has_threads job

-- the word is that of such a job
abbrev pub NamesThreads : List ℕ → Type 0
NamesThreads word = (word ≡ job_word name.Render) ⊎ ((word ≡ job_word name.Demo) ⊎ (word ≡ job_word name.Last))

-- the first word is that of a job that starts threads
abbrev pub IsThreaded : List (String Global) → Type 0
IsThreaded words =
    (slice_get (map string_bytes words) 0 ≡ Some (job_word name.Render))
    ⊎ ((slice_get (map string_bytes words) 0 ≡ Some (job_word name.Demo)) ⊎ (slice_get (map string_bytes words) 0 ≡ Some (job_word name.Last)))

-- nothing is due to the image
abbrev pub ShowsNothing : Job → Type 0
ShowsNothing Check = Unit {0}
ShowsNothing Race = Unit {0}
ShowsNothing _ = ⊥

-- ---- where a job's scene comes from

-- It is read, as bytes, as bytes of a scene without call lists, or as text; or it is made.
abbrev pub origin_of : Job → Origin
origin_of (Render cluster) = Read Bytes
origin_of (Simulate seed cluster) = Read Bytes
origin_of Serial = Read Bytes
origin_of Last = Read Bytes
origin_of Check = Read Bytes
origin_of Race = Read Bytes
origin_of Pack = Read Text
origin_of Unpack = Read PlainBytes
origin_of (Gen seed size) = Generated seed size
origin_of (Demo seed size cluster) = Generated seed size

-- it is read
abbrev pub Reads : Job → Type 0
Reads job = (form : Form) × (origin_of job ≡ Read form)

-- nothing that is asked for reads the source
abbrev pub NoneReads : (Task → Type 0) → Type 0
NoneReads asks = (task : Task) → asks task → Reads task.job → ⊥
