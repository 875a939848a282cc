-- The command lines: a job, and then its options in any order.
use Rattle.std.specs.Prelude.{◌≡◌, ℕ, ◌^◌, ◌<◌, Bool, true, false, List, [], ◌∷◌, ◌++◌, map, codes}
use Rattle.std.specs.List.{flat_map, AllByRecursion}
use Rattle.std.specs.Fmt.{decimal}
use Rattle.rc_base.specs.Lists.{IsIn, NoRepeat}
use Rattle.command_line.specs.declared.job.JobName.{JobName}
use Rattle.command_line.specs.declared.job.JobName.TheVariants.{Render, Simulate, Serial, Last, Check, Race, Pack, Unpack, Gen, Demo}
use Rattle.command_line.specs.declared.job.OptionName.{OptionName}
use Rattle.command_line.specs.declared.job.OptionName.TheVariants.{Tiles, Depth, Order, Seed, Size}

-- ---- jobs and their options

-- a job's word, the options that it takes, and those that it must have
pub record JobRow : Type 0 where
  pub word : List ℕ
  pub options : List OptionName
  pub due : List OptionName

-- the jobs, one row each
abbrev pub row_of : JobName → JobRow
row_of Render = record { word = codes "render"; options = Tiles ∷ Depth ∷ Order ∷ []; due = [] }
row_of Simulate = record { word = codes "simulate"; options = Seed ∷ Tiles ∷ Depth ∷ Order ∷ []; due = Seed ∷ [] }
row_of Serial = record { word = codes "serial"; options = []; due = [] }
row_of Last = record { word = codes "last"; options = []; due = [] }
row_of Check = record { word = codes "check"; options = []; due = [] }
row_of Race = record { word = codes "race"; options = []; due = [] }
row_of Pack = record { word = codes "pack"; options = []; due = [] }
row_of Unpack = record { word = codes "unpack"; options = []; due = [] }
row_of Gen = record { word = codes "gen"; options = Seed ∷ Size ∷ []; due = Seed ∷ Size ∷ [] }
row_of Demo = record { word = codes "demo"; options = Seed ∷ Size ∷ Tiles ∷ Depth ∷ []; due = Seed ∷ Size ∷ [] }

abbrev pub job_word : JobName → List ℕ
job_word job = (row_of job).word

abbrev pub options_of : JobName → List OptionName
options_of job = (row_of job).options

abbrev pub options_due : JobName → List OptionName
options_due job = (row_of job).due

-- an option with its value
pub data Setting : Type 0 where
  TilesOf : (columns rows : ℕ) → Setting
  DepthOf : (depth : ℕ) → Setting
  WithOrder : Setting
  SeedOf : (seed : ℕ) → Setting
  SizeOf : (size : ℕ) → Setting

abbrev pub option_of : Setting → OptionName
option_of (TilesOf columns rows) = Tiles
option_of (DepthOf depth) = Depth
option_of WithOrder = Order
option_of (SeedOf seed) = Seed
option_of (SizeOf size) = Size

-- Its words: the option's name, and its value in the next word. A number is 0 or digits without a leading zero.
abbrev pub setting_words : Setting → List (List ℕ)
setting_words (TilesOf columns rows) = codes "--tiles" ∷ (decimal columns ++ (codes "x" ++ decimal rows)) ∷ []
setting_words (DepthOf depth) = codes "--depth" ∷ decimal depth ∷ []
setting_words WithOrder = codes "--order" ∷ []
setting_words (SeedOf seed) = codes "--seed" ∷ decimal seed ∷ []
setting_words (SizeOf size) = codes "--size" ∷ decimal size ∷ []

-- its numbers are below 2^64
abbrev pub IsSetting : Setting → Type 0
IsSetting (TilesOf columns rows) = (columns < 2 ^ 64) × (rows < 2 ^ 64)
IsSetting (DepthOf depth) = depth < 2 ^ 64
IsSetting WithOrder = Unit {0}
IsSetting (SeedOf seed) = seed < 2 ^ 64
IsSetting (SizeOf size) = size < 2 ^ 64

-- ---- command lines

-- The words are the job's, and then those of its settings: of options that it takes, each at most once, and each that it must have.
pub record IsCommandLine (words : List (List ℕ)) (job : JobName) (settings : List Setting) : Type 0 where
  pub parts : words ≡ job_word job ∷ flat_map setting_words settings
  pub each : AllByRecursion IsSetting settings
  pub taken : (o : OptionName) → IsIn o (map option_of settings) → IsIn o (options_of job)
  pub once : NoRepeat (map option_of settings)
  pub due : (o : OptionName) → IsIn o (options_due job) → IsIn o (map option_of settings)

-- the words are a line, or none
abbrev pub IsSomeLine : List (List ℕ) → Type 0
IsSomeLine words = (job : JobName) × (settings : List Setting) × IsCommandLine words job settings

abbrev pub IsNoLine : List (List ℕ) → Type 0
IsNoLine words = (job : JobName) (settings : List Setting) → IsCommandLine words job settings → ⊥

-- ---- what the settings say, with the defaults

abbrev pub tiles_in : List Setting → ℕ × ℕ
tiles_in [] = (1, 1)
tiles_in (TilesOf columns rows ∷ settings) = (columns, rows)
tiles_in (DepthOf depth ∷ settings) = tiles_in settings
tiles_in (WithOrder ∷ settings) = tiles_in settings
tiles_in (SeedOf seed ∷ settings) = tiles_in settings
tiles_in (SizeOf size ∷ settings) = tiles_in settings

abbrev pub depth_in : List Setting → ℕ
depth_in [] = 8
depth_in (TilesOf columns rows ∷ settings) = depth_in settings
depth_in (DepthOf depth ∷ settings) = depth
depth_in (WithOrder ∷ settings) = depth_in settings
depth_in (SeedOf seed ∷ settings) = depth_in settings
depth_in (SizeOf size ∷ settings) = depth_in settings

abbrev pub order_in : List Setting → Bool
order_in [] = false
order_in (TilesOf columns rows ∷ settings) = order_in settings
order_in (DepthOf depth ∷ settings) = order_in settings
order_in (WithOrder ∷ settings) = true
order_in (SeedOf seed ∷ settings) = order_in settings
order_in (SizeOf size ∷ settings) = order_in settings

-- a seed and a size have no default: where they are used they are there
abbrev pub seed_in : List Setting → ℕ
seed_in [] = 0
seed_in (TilesOf columns rows ∷ settings) = seed_in settings
seed_in (DepthOf depth ∷ settings) = seed_in settings
seed_in (WithOrder ∷ settings) = seed_in settings
seed_in (SeedOf seed ∷ settings) = seed
seed_in (SizeOf size ∷ settings) = seed_in settings

abbrev pub size_in : List Setting → ℕ
size_in [] = 0
size_in (TilesOf columns rows ∷ settings) = size_in settings
size_in (DepthOf depth ∷ settings) = size_in settings
size_in (WithOrder ∷ settings) = size_in settings
size_in (SeedOf seed ∷ settings) = size_in settings
size_in (SizeOf size ∷ settings) = size
