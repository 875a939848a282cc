use Rattle.std.proofs.Common.{[]}
use Rattle.step_core.specs.Worlds.{AreRowsOf}
use Rattle.step_core.proofs.first.new_rows.Given as goal

abbrev pub invariant-loop : goal.invariant-loop
invariant-loop l = AreRowsOf l.depth l.clients l.counter (λ client tile. []) l.rows.items
