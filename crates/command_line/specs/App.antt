-- The options as a command of `clap`.
use Rattle.std.specs.Prelude.{[], ◌∷◌, Some, true, codes}
use Rattle.command_line.specs.declared.job.OptionName.{OptionName}
use Rattle.command_line.specs.declared.job.OptionName.TheVariants.{Tiles, Depth, Order, Seed, Size}
use Rattle.clap.specs.Walk.{Rule, Text}
use Rattle.clap.specs.Simple.{App, new_app, new_rule, on_top}
use Rattle.clap.specs.declared.builder.action.ArgAction.TheVariants.{SetTrue}

abbrev pub option_rule : Text → Rule
option_rule name = record (new_rule name) { long = Some name }

abbrev pub flag_rule : Text → Rule
flag_rule name = record (new_rule name) { long = Some name; action = Some SetTrue }

abbrev pub rule_for : OptionName → Rule
rule_for Tiles = option_rule (codes "tiles")
rule_for Depth = option_rule (codes "depth")
rule_for Order = flag_rule (codes "order")
rule_for Seed = option_rule (codes "seed")
rule_for Size = option_rule (codes "size")

-- a command of these options, none of which it must have, and of nothing else
abbrev pub line_app : App
line_app = on_top (λ s. record s {
  no_binary_name = true;
  disable_help_flag = true;
  rules = rule_for Tiles ∷ rule_for Depth ∷ rule_for Seed ∷ rule_for Size ∷ rule_for Order ∷ [];
}) (new_app (codes "rc"))
