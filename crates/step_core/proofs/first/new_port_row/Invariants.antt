use Rattle.std.proofs.Common.{[]}
use Rattle.step_core.specs.Worlds.{IsPortRow}
use Rattle.step_core.proofs.first.new_port_row.Given as goal

abbrev pub invariant-loop : goal.invariant-loop
invariant-loop l = IsPortRow l.depth l.counter (λ tile. []) l.row.items
