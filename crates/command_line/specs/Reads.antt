-- What is read of words, setting by setting.
use Rattle.std.specs.Prelude.{◌≡◌, ℕ, Bool, true, false, List, [], ◌∷◌}
use Rattle.rc_base.specs.Lists.{IsIn}
use Rattle.command_line.specs.declared.job.JobName.{JobName}
use Rattle.command_line.specs.declared.job.OptionName.{OptionName}
use Rattle.command_line.specs.Words.{Setting, option_of, options_of}
use Rattle.command_line.specs.declared.job.OptionName.TheVariants.{Tiles, Depth, Order, Seed, Size}
use Rattle.command_line.specs.declared.seen.Seen.{Seen}
use Rattle.command_line.specs.Begins.{Begins}

abbrev pub nothing : Seen
nothing = record { tiles = false; depth = false; order = false; seed = false; size = false }

abbrev pub has : Seen → OptionName → Bool
has seen Tiles = seen.tiles
has seen Depth = seen.depth
has seen Order = seen.order
has seen Seed = seen.seed
has seen Size = seen.size

abbrev pub with_option : Seen → OptionName → Seen
with_option seen Tiles = record seen { tiles = true }
with_option seen Depth = record seen { depth = true }
with_option seen Order = record seen { order = true }
with_option seen Seed = record seen { seed = true }
with_option seen Size = record seen { size = true }

-- the job takes the option, which wasn't seen yet
pub record IsFree (job : JobName) (seen : Seen) (o : OptionName) : Type 0 where
  pub taken : IsIn o (options_of job)
  pub new : has seen o ≡ false

-- the words are those of these settings, and lead from the options that were seen before to those that were seen in the end
pub data ReadsOptions (job : JobName) : Seen → List (List ℕ) → List Setting → Seen → Type 0 where
  done : {seen : Seen} → ReadsOptions job seen [] [] seen
  more : {seen last : Seen} {words rest : List (List ℕ)} {s : Setting} {ss : List Setting}
      → Begins words s rest → IsFree job seen (option_of s) → ReadsOptions job (with_option seen (option_of s)) rest ss last
      → ReadsOptions job seen words (s ∷ ss) last
