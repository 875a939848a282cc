use Rattle.std.proofs.Common.{◌≡◌, ◌++◌, map, drop}
use Rattle.std.specs.List.{flat_map}
use Rattle.scene_text.specs.Text.Printed.{printed_line}
use Rattle.scene_text.specs.Text.Statements.{command_statement}
use Rattle.scene_text.proofs.print.print_commands.Given as goal

-- what is printed so far, and then what is left, is the whole
abbrev pub invariant-loop-command : goal.invariant-loop-command
invariant-loop-command l = l.text ++ flat_map printed_line (map command_statement (drop l.command-index l.commands)) ≡ l.fn.text ++ flat_map printed_line (map command_statement l.commands)
