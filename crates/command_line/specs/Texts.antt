-- The texts of a line's values.
use Rattle.std.specs.Prelude.{◌≡◌, ℕ, ◌++◌, List, [], ◌∷◌, Option, None, Some, codes, map, if◌then◌else◌}
use Rattle.std.specs.List.{flat_map, AllByRecursion}
use Rattle.std.specs.Str.{bytes_eq}
use Rattle.std.specs.Fmt.{decimal}
use Rattle.rc_base.specs.Lists.{NoRepeat}
use Rattle.command_line.specs.declared.job.OptionName.{OptionName}
use Rattle.command_line.specs.Words.{Setting, IsSetting, option_of, setting_words, order_in}
use Rattle.command_line.specs.declared.job.OptionName.TheVariants.{Tiles, Depth, Order, Seed, Size}
use Rattle.command_line.specs.Words.Setting.{TilesOf, DepthOf, WithOrder, SeedOf, SizeOf}
use Rattle.clap.specs.Words.{found_of, first_value, kind_of, one_text}
use Rattle.clap.specs.declared.error.Error.{Error}
use Rattle.clap.specs.declared.error.kind.ErrorKind.TheVariants.{OutOfMemory}
use Rattle.clap.specs.declared.parser.matches.ArgMatches.{ArgMatches}

-- the option's name without its hyphens
abbrev pub id_of : OptionName → List ℕ
id_of Tiles = codes "tiles"
id_of Depth = codes "depth"
id_of Order = codes "order"
id_of Seed = codes "seed"
id_of Size = codes "size"

-- the text of the value; an option that has none is read as the word `true`
abbrev pub value_text : Setting → List ℕ
value_text (TilesOf columns rows) = decimal columns ++ (codes "x" ++ decimal rows)
value_text (DepthOf depth) = decimal depth
value_text WithOrder = codes "true"
value_text (SeedOf seed) = decimal seed
value_text (SizeOf size) = decimal size

-- the text of the first value of the option
abbrev pub text_in : OptionName → List Setting → Option (List ℕ)
text_in o [] = None
text_in o (s ∷ ss) = if bytes_eq (id_of (option_of s)) (id_of o) then Some (value_text s) else text_in o ss

-- the words are those of the settings, of which each has an option of its own
pub record AreSettings (words : List (List ℕ)) (ss : List Setting) : Type 0 where
  pub parts : words ≡ flat_map setting_words ss
  pub each : AllByRecursion IsSetting ss
  pub once : NoRepeat (map option_of ss)

-- this holds of the settings that the words are
abbrev pub ForSettings : List (List ℕ) → (List Setting → Type 0) → Type 0
ForSettings words holds = (ss : List Setting) → AreSettings words ss → holds ss

-- the matches have the texts of the settings' values
pub record HasTexts (m : ArgMatches) (ss : List Setting) : Type 0 where
  pub tiles : first_value (found_of m) (codes "tiles") ≡ text_in Tiles ss
  pub depth : first_value (found_of m) (codes "depth") ≡ text_in Depth ss
  pub seed : first_value (found_of m) (codes "seed") ≡ text_in Seed ss
  pub size : first_value (found_of m) (codes "size") ≡ text_in Size ss
  pub order : one_text (found_of m) (codes "order") ≡ Some (if order_in ss then codes "true" else codes "false")

-- memory lacked
abbrev pub IsLack : Error → Type 0
IsLack error = kind_of error ≡ OutOfMemory
