use Rattle.std.proofs.Common.{◌≡◌, ◌++◌, map, drop}
use Rattle.std.specs.List.{flat_map}
use Rattle.scene_text.specs.Text.Printed.{printed_line}
use Rattle.scene_text.specs.Text.Statements.{barrier_statement}
use Rattle.scene_text.proofs.print.print_barriers.Given as goal

-- what is printed so far, and then what is left, is the whole
abbrev pub invariant-loop-count : goal.invariant-loop-count
invariant-loop-count l = l.text ++ flat_map printed_line (map barrier_statement (drop l.count-index l.counts)) ≡ l.fn.text ++ flat_map printed_line (map barrier_statement l.counts)
