use Rattle.std.proofs.Common.{◌≡◌, ◌++◌, map, drop}
use Rattle.std.specs.List.{flat_map}
use Rattle.scene_text.specs.Text.Printed.{printed_line}
use Rattle.scene_text.specs.Text.Statements.{semaphore_statement}
use Rattle.scene_text.proofs.print.print_semaphores.Given as goal

-- what is printed so far, and then what is left, is the whole
abbrev pub invariant-loop-unit : goal.invariant-loop-unit
invariant-loop-unit l = l.text ++ flat_map printed_line (map semaphore_statement (drop l.unit-index l.units)) ≡ l.fn.text ++ flat_map printed_line (map semaphore_statement l.units)
