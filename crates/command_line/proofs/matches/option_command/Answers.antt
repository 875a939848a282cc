use Rattle.std.proofs.Common.{◌≡◌, ◌∙◌, ap, ap₂, rules, true, codes}
use Rattle.command_line.specs.declared.job.OptionName.TheVariants.{Tiles, Depth, Order, Seed, Size}
use Rattle.clap.specs.Words.{app_of, new_app, rule_of, with_rule}
use Rattle.clap.specs.Simple.{on_top, app_of_fields}
use Rattle.command_line.specs.App.{rule_for}
use Rattle.command_line.proofs.ValuesRead.{map_ok}
use Rattle.command_line.proofs.matches.option_command.Goals as goal

pub returns : goal.returns
returns c =
    let tiles_is : rule_of c.long.result ≡ rule_for Tiles = search rules in
    let depth_is : rule_of c.long-2.result ≡ rule_for Depth = search rules in
    let seed_is : rule_of c.long-3.result ≡ rule_for Seed = search rules in
    let size_is : rule_of c.long-4.result ≡ rule_for Size = search rules in
    let order_is : rule_of c.action.result ≡ rule_for Order = search rules in
    let start_is : app_of c.disable_help_flag.result ≡ on_top (λ s. record s { no_binary_name = true; disable_help_flag = true }) (new_app (codes "rc"))
    = ap app_of_fields c.disable_help_flag.ensures ∙ (ap (λ f. app_of_fields (record f { disable_help_flag = true })) c.no_binary_name.ensures
    ∙ ap (on_top (λ s. record s { no_binary_name = true; disable_help_flag = true })) c.new.ensures.app) in
    let one = c.in_ok-arg.ensures.shape (search rules) ∙ ap₂ with_rule start_is tiles_is in
    let two = c.in_ok-arg-2.ensures.shape (search rules) ∙ ap₂ with_rule one depth_is in
    let three = c.in_ok-arg-3.ensures.shape (search rules) ∙ ap₂ with_rule two seed_is in
    let four = c.in_ok-arg-4.ensures.shape (search rules) ∙ ap₂ with_rule three size_is in
    map_ok c.arg-5.result c.arg-5.ensures (λ command adds. adds.shape (search rules) ∙ ap₂ with_rule four order_is)
