-- What a line is read as.
use Rattle.std.specs.Prelude.{◌≡◌, ℕ, List}
use Rattle.command_line.specs.Words.{Setting, IsCommandLine, tiles_in, depth_in, order_in, seed_in, size_in}
use Rattle.command_line.specs.declared.line.CommandLine.{CommandLine}
use Rattle.command_line.specs.declared.values.Settings.{Settings}

-- the values are what the settings say, with the defaults
pub record AreValues (values : Settings) (ss : List Setting) : Type 0 where
  pub tiles : (values.columns, values.rows) ≡ tiles_in ss
  pub depth : values.depth ≡ depth_in ss
  pub order : values.order ≡ order_in ss
  pub seed : values.seed ≡ seed_in ss
  pub size : values.size ≡ size_in ss

-- the words are a line of this job, and of settings that say these values
pub record IsLineOf (words : List (List ℕ)) (c : CommandLine) : Type 0 where
  pub settings : List Setting
  pub line : IsCommandLine words c.job settings
  pub values : AreValues c.settings settings
