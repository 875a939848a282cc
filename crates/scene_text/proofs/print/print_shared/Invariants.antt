use Rattle.std.proofs.Common.{◌≡◌, ◌++◌, map, drop}
use Rattle.std.specs.List.{flat_map}
use Rattle.scene_text.specs.Text.Printed.{printed_line}
use Rattle.scene_text.specs.Text.Statements.{shared_statement}
use Rattle.scene_text.proofs.print.print_shared.Given as goal

-- what is printed so far, and then what is left, is the whole
abbrev pub invariant-loop-size : goal.invariant-loop-size
invariant-loop-size l = l.text ++ flat_map printed_line (map shared_statement (drop l.size-index l.sizes)) ≡ l.fn.text ++ flat_map printed_line (map shared_statement l.sizes)
