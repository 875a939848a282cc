use Rattle.std.proofs.Common.{map, length, ◌≤◌}
use Rattle.std.specs.Prelude.{string_bytes}
use Rattle.command_line.proofs.FilterLines.{HasRead}
use Rattle.command_line.proofs.leading.filters.Given as goal

abbrev pub invariant-loop-rest : goal.invariant-loop-rest
invariant-loop-rest l = HasRead (map string_bytes l.fn.words) (map string_bytes l.rest) l.rules × (length l.rest ≤ length l.fn.words)

abbrev pub decreases-loop-rest : goal.decreases-loop-rest
decreases-loop-rest l = length l.rest
