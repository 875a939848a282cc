use Rattle.std.proofs.Common.{◌≡◌, ◌++◌, drop}
use Rattle.std.specs.List.{flat_map}
use Rattle.scene_text.specs.Text.Printed.{printed_line}
use Rattle.scene_text.specs.Text.Statements.{client_statements}
use Rattle.scene_text.proofs.print.print_streams.Given as goal

-- what is printed so far, and then what is left, is the whole
abbrev pub invariant-loop-commands : goal.invariant-loop-commands
invariant-loop-commands l = l.text ++ flat_map printed_line (flat_map client_statements (drop l.commands-index l.streams)) ≡ l.fn.text ++ flat_map printed_line (flat_map client_statements l.streams)
