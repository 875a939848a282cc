-- The setting that words begin with.
use Rattle.std.specs.Prelude.{◌≡◌, ℕ, List, ◌++◌}
use Rattle.command_line.specs.declared.job.OptionName.{OptionName}
use Rattle.command_line.specs.Words.{Setting, IsSetting, option_of, setting_words}

-- the words are those of the setting, and then the rest
pub record Begins (words : List (List ℕ)) (s : Setting) (rest : List (List ℕ)) : Type 0 where
  pub parts : words ≡ setting_words s ++ rest
  pub fits : IsSetting s

-- the words are those of a setting of this option
pub record IsSettingOf (o : OptionName) (words : List (List ℕ)) : Type 0 where
  pub setting : Setting
  pub named : option_of setting ≡ o
  pub parts : setting_words setting ≡ words
  pub fits : IsSetting setting

-- the words are those of a setting of this option, and then the rest
pub record BeginsWith (o : OptionName) (words rest : List (List ℕ)) : Type 0 where
  pub setting : Setting
  pub named : option_of setting ≡ o
  pub begins : Begins words setting rest
