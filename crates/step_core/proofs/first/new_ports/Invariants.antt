use Rattle.std.proofs.Common.{[]}
use Rattle.step_core.specs.Worlds.{ArePortsOf}
use Rattle.step_core.proofs.first.new_ports.Given as goal

abbrev pub invariant-loop : goal.invariant-loop
invariant-loop l = ArePortsOf l.depth l.counter l.tiles (λ client tile. []) l.ports.items
